use Rattle.std.proofs.Common.{◌≡◌, [], ℕ, length, Some, slice_get}
use Rattle.sure_groups.specs.declared.bags.Bag.{Bag as Seen}
use Rattle.sure_groups.proofs.bags.no_bags.Given as goal

abbrev pub invariant-loop-group : goal.invariant-loop-group
invariant-loop-group l = record {
  many : length l.bags.items ≡ l._group;
  each : (g : ℕ) (bag : Seen) → slice_get l.bags.items g ≡ Some bag → (bag.since ≡ l.since) × (bag.inputs.items ≡ []);
}
