use Rattle.std.proofs.Common.{◌≡◌, length}
use Rattle.antimessage.proofs.Below.{IsDropping}
use Rattle.antimessage.proofs.merge.drop_below.Given as goal

abbrev pub invariant-loop-bound : goal.invariant-loop-bound
invariant-loop-bound l = (l.events.before ≡ l.fn.events.before) × IsDropping l.bound l.fn.events.after l.events.after

abbrev pub decreases-loop-bound : goal.decreases-loop-bound
decreases-loop-bound l = length l.events.after
