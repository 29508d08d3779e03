use Rattle.std.proofs.Common.{length}
use Rattle.task_seed.specs.Taken.{turns_of}
use Rattle.turn_lists.proofs.TakenIn.{IsMerging}
use Rattle.turn_lists.proofs.merging.merge_among.Given as goal

abbrev pub invariant-loop-cell : goal.invariant-loop-cell
invariant-loop-cell l = IsMerging (turns_of l.fn.turns.after) (turns_of l.fn.held.after) l.turns.before l.held.before l.held.after

abbrev pub decreases-loop-cell : goal.decreases-loop-cell
decreases-loop-cell l = length l.turns.before
