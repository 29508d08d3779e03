use Rattle.std.proofs.Common.{◌+◌, ◌≤◌, length}
use Rattle.trace.proofs.InOrder.{IsReadInOrder}
use Rattle.trace.proofs.ordered.read_in_order.Given as goal

abbrev pub invariant-loop-rest : goal.invariant-loop-rest
invariant-loop-rest l = record {
  read : IsReadInOrder l.plan l.bytes l.rest l.line l.last l.actions.items;
  room : l.line + length l.rest ≤ length l.bytes;
}

abbrev pub decreases-loop-rest : goal.decreases-loop-rest
decreases-loop-rest l = length l.rest
