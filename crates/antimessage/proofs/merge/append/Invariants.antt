use Rattle.std.proofs.Common.{◌≡◌, [], length}
use Rattle.antimessage.proofs.Placed.{IsJoining}
use Rattle.antimessage.proofs.merge.append.Given as goal

abbrev pub invariant-loop-cell : goal.invariant-loop-cell
invariant-loop-cell l = (l.other.before ≡ []) × IsJoining l.fn.events.after l.fn.other.after l.events.before l.events.after l.other.after

abbrev pub decreases-loop-cell : goal.decreases-loop-cell
decreases-loop-cell l = length l.other.after
