use Rattle.std.proofs.Common.{length}
use Rattle.antimessage.proofs.Placed.{IsPlacing}
use Rattle.antimessage.proofs.merge.put.Given as goal

abbrev pub invariant-loop-events : goal.invariant-loop-events
invariant-loop-events l = IsPlacing l.cell l.fn.events.before l.fn.events.after l.events.before l.events.after

abbrev pub decreases-loop-events : goal.decreases-loop-events
decreases-loop-events l = length l.events.after
