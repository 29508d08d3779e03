use Rattle.std.proofs.Common.{◌+◌, length}
use Rattle.exchange.proofs.Spreading.{IsSpreading}
use Rattle.exchange.proofs.meeting.spread.Given as goal

abbrev pub invariant-loop-to : goal.invariant-loop-to
invariant-loop-to l = IsSpreading l.fn.out l.fn.copies l.fn.stubs l.out l.copies l.stubs

abbrev pub decreases-loop-to : goal.decreases-loop-to
decreases-loop-to l = length l.out + length l.copies
