use Rattle.group_exchange.proofs.Putting.{IsPutting}
use Rattle.group_exchange.proofs.queue.put_all_into.Given as goal

abbrev pub invariant-loop-place : goal.invariant-loop-place
invariant-loop-place g l = IsPutting l.components l.initial.lists l.initial.queues l.place l.lists l.queues
