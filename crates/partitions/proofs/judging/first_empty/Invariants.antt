use Rattle.std.proofs.Common.{◌<◌, ℕ, get_or}
use Rattle.partitions.proofs.judging.first_empty.Given as goal

abbrev pub invariant-loop-group : goal.invariant-loop-group
invariant-loop-group l = (g : ℕ) → g < l.group → 0 < get_or l.sizes g 0
