use Rattle.std.specs.Prelude.{IsPermutation}
use Rattle.partitions.proofs.swap.undo.Given as goal

abbrev pub invariant-loop-place : goal.invariant-loop-place
invariant-loop-place l = IsPermutation l.fn.group_of.items l.group_of.items
