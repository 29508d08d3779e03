use Rattle.std.proofs.Common.{◌≡◌, length}
use Rattle.std.specs.Cmp.Lexicographic.{pointwise}
use Rattle.raw_events.proofs.same.same.Given as goal

abbrev pub invariant-loop-item : goal.invariant-loop-item
invariant-loop-item g l = pointwise g.T.PartialEq.eq l.left l.right ≡ pointwise g.T.PartialEq.eq l.initial.left l.initial.right

abbrev pub decreases-loop-item : goal.decreases-loop-item
decreases-loop-item g l = length l.left
