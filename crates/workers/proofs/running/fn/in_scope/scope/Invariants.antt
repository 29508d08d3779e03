use Rattle.std.proofs.Common.{All}
use Rattle.workers.specs.Crews.{IsCallerOf, IsOf}
use Rattle.workers.proofs.running.fn.in_scope.scope.Given as goal

abbrev pub invariant-loop-worker : goal.invariant-loop-worker
invariant-loop-worker g l = record {
  can : (goal.iterator-loop-worker g).can_next l.worker-iterator;
  ends : (goal.iterator-loop-worker g).is_finite l.worker-iterator;
  crew : All (IsOf g.T.Turns.turn_of l.shared) l.worker-iterator.rest.items;
  caller : IsCallerOf l.shared l.own l.caller;
}
