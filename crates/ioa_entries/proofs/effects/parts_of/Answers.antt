use Rattle.std.proofs.Common.{rules, subst, map}
use Rattle.std.specs.Vec.Iter.{into_iter_items}
use Rattle.ioa_entries.specs.EffectLists.{before, led_on}
use Rattle.ioa_entries.specs.EffectViews.{done_tree}
use Rattle.ioa_entries.proofs.Led.{next_effect}
use Rattle.ioa_entries.proofs.effects.parts_of.Goals as goal

pub loop-effect-preserved : goal.loop-effect-preserved
loop-effect-preserved c = record {
  led = next_effect c.loop-effect.parts c.push.new.self c.in-Some-part_of.part c.in-Some.effect (into_iter_items c.loop-effect.effect-iterator) (into_iter_items c.next.new.self)
      (λ rest. before (map done_tree (into_iter_items c.into_iter-effect-iterator.result)) rest) (search rules) (search rules) (search rules) c.loop-effect.invariant.led;
  left = search rules;
}
