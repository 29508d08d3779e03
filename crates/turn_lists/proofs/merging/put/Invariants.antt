use Rattle.std.proofs.Common.{length}
use Rattle.turn_lists.proofs.TakenIn.{IsPutting}
use Rattle.turn_lists.proofs.merging.put.Given as goal

abbrev pub invariant-loop-bound : goal.invariant-loop-bound
invariant-loop-bound l = IsPutting l.cell l.fn.held.before l.fn.held.after l.held.before l.held.after

abbrev pub decreases-loop-bound : goal.decreases-loop-bound
decreases-loop-bound l = length l.held.before
