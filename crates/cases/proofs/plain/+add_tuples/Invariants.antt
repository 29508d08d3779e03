use Rattle.std.proofs.Common.{◌<◌, length}
use Rattle.cases.proofs.plain.+add_tuples.Given as goal

abbrev pub decreases-add_tuples : goal.decreases-add_tuples
decreases-add_tuples l = length l.types.now

abbrev pub invariant-loop-place : goal.invariant-loop-place
invariant-loop-place l = length l.rest < length l.fn.types
