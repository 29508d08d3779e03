use Rattle.std.proofs.Common.{◌≡◌}
use Rattle.antimessage.proofs.Cancelling.{IsCancelling}
use Rattle.antimessage.proofs.walks.cancel.Given as goal

abbrev pub invariant-loop-other : goal.invariant-loop-other
invariant-loop-other l = (l.events.before ≡ l.fn.events.before) × IsCancelling l.fn.others l.other-iterator l.fn.events.after l.events.after
