use Rattle.std.proofs.Common.{◌≡◌, filter}
use Rattle.std.specs.List.{range_with_len}
use Rattle.plans.specs.Plans.{composition}
use Rattle.senders.specs.Meeting.{may_send}
use Rattle.senders.proofs.senders.list_to.Given as goal

abbrev pub invariant-loop-i : goal.invariant-loop-i
invariant-loop-i l = l.list.items ≡ filter (may_send (composition l.plan) l.fn.j) (range_with_len 0 l.i)
