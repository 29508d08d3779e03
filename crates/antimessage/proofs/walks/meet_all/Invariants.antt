use Rattle.std.proofs.Common.{length}
use Rattle.antimessage.proofs.Meeting.{IsMeeting}
use Rattle.antimessage.proofs.walks.meet_all.Given as goal

abbrev pub invariant-loop-events : goal.invariant-loop-events
invariant-loop-events l = IsMeeting l.fn.events.after l.events.before l.events.after l.pairs

abbrev pub decreases-loop-events : goal.decreases-loop-events
decreases-loop-events l = length l.events.after
