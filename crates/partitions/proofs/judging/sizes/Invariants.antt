use Rattle.std.proofs.Common.{◌≡◌, ◌<◌, ℕ, get_or, length, take}
use Rattle.partitions.specs.Partitions.{size_of}
use Rattle.partitions.proofs.judging.sizes.Given as goal

abbrev pub invariant-loop-group : goal.invariant-loop-group
invariant-loop-group l = record {
  long : length l.sizes.items ≡ l.groups;
  sizes : (g : ℕ) → g < l.groups → get_or l.sizes.items g 0 ≡ size_of (take l.group-index l.group_of) g;
}
