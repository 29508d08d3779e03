use Rattle.std.proofs.Common.{◌≡◌, ℕ, Option, length, Some, slice_get}
use Rattle.event_keys.specs.declared.key.Key.{Key}
use Rattle.sure_groups.proofs.giving.all_at.Given as goal

abbrev pub invariant-loop-group : goal.invariant-loop-group
invariant-loop-group l = record {
  many : length l.heard.items ≡ l._group;
  each : (g : ℕ) (key : Option Key) → slice_get l.heard.items g ≡ Some key → key ≡ l.first;
}
