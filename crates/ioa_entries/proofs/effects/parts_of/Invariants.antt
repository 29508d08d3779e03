use Rattle.std.proofs.Common.{◌≡◌, Option, Some, map, length}
use Rattle.std.specs.Vec.Iter.{into_iter_items, into_iter_len}
use Rattle.terms.specs.EffectTree.{EffectTree}
use Rattle.ioa_entries.specs.EffectLists.{before, led_by}
use Rattle.ioa_entries.specs.EffectViews.{done_tree}
use Rattle.ioa_entries.proofs.effects.parts_of.Given as goal

abbrev pub invariant-loop-effect : goal.invariant-loop-effect
invariant-loop-effect l = record {
  led : (rest : Option EffectTree) → led_by (Some l.parts) (before (map done_tree (into_iter_items l.effect-iterator)) rest) ≡ before (map done_tree (into_iter_items l.initial.effect-iterator)) rest;
  left : into_iter_len l.effect-iterator ≡ length (into_iter_items l.effect-iterator);
}
