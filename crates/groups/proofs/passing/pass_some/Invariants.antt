use Rattle.std.proofs.Common.{◌≡◌, length}
use Rattle.antimessage.specs.Order.{IsInOrder}
use Rattle.groups.specs.Open.{IsPassed, depth_of}
use Rattle.groups.proofs.passing.pass_some.Given as goal

abbrev pub invariant-loop-cell : goal.invariant-loop-cell
invariant-loop-cell g l =
    record {
      passed : IsPassed g.T.Turns.turn_of l.initial.members l.members l.initial.sent l.sent l.initial.out l.out;
      depth : depth_of l.members.components ≡ depth_of l.initial.members.components;
      order : IsInOrder l.sent;
    }

abbrev pub decreases-loop-cell : goal.decreases-loop-cell
decreases-loop-cell g l = length l.sent
