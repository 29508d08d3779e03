use Rattle.std.proofs.Common.{length}
use Rattle.antimessage.proofs.Below.{IsDropping}
use Rattle.group_exchange.proofs.meeting.drop_below.Given as goal

abbrev pub invariant-loop-bound : goal.invariant-loop-bound
invariant-loop-bound l = IsDropping l.bound l.initial.bag l.bag

abbrev pub decreases-loop-bound : goal.decreases-loop-bound
decreases-loop-bound l = length l.bag
