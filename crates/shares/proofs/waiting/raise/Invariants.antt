use Rattle.std.proofs.Common.{◌≡◌}
use Rattle.shares.proofs.waiting.raise.Given as goal

abbrev pub invariant-loop-place : goal.invariant-loop-place
invariant-loop-place l = l.waits ≡ l.initial.waits
