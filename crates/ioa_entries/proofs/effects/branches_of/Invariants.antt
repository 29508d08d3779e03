use Rattle.std.proofs.Common.{◌≡◌, Option, Some, map, length}
use Rattle.std.specs.Vec.Iter.{into_iter_items, into_iter_len}
use Rattle.terms.specs.EffectTree.{EffectTree}
use Rattle.ioa_entries.specs.EffectLists.{choice, led_by}
use Rattle.ioa_entries.specs.EffectViews.{arm_tree}
use Rattle.ioa_entries.proofs.effects.branches_of.Given as goal

abbrev pub invariant-loop-arm : goal.invariant-loop-arm
invariant-loop-arm l = record {
  led : (rest : Option EffectTree) → led_by (Some l.parts) (choice (map arm_tree (into_iter_items l.arm-iterator)) rest) ≡ choice (map arm_tree (into_iter_items l.initial.arm-iterator)) rest;
  left : into_iter_len l.arm-iterator ≡ length (into_iter_items l.arm-iterator);
}
