use Rattle.std.proofs.Common.{◌≡◌, [], length}
use Rattle.antimessage.specs.Bags.{is_to}
use Rattle.antimessage.proofs.Splitting.{IsSplitting}
use Rattle.antimessage.proofs.walks.split_to.Given as goal

abbrev pub invariant-loop-cell : goal.invariant-loop-cell
invariant-loop-cell l = (l.taken.after ≡ []) × IsSplitting (is_to l.to) l.fn.events.after l.taken.before l.events.before l.events.after

abbrev pub decreases-loop-cell : goal.decreases-loop-cell
decreases-loop-cell l = length l.events.after
