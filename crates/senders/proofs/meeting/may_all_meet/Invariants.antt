use Rattle.std.proofs.Common.{◌≡◌, drop}
use Rattle.senders.specs.Meeting.{may_all_meet}
use Rattle.senders.proofs.meeting.may_all_meet.Given as goal

abbrev pub invariant-loop-k : goal.invariant-loop-k
invariant-loop-k l = may_all_meet l.formals l.params l.others l.more ≡ may_all_meet l.formals (drop l.k l.params) l.others (drop l.k l.more)
