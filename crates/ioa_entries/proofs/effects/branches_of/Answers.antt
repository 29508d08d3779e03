use Rattle.std.proofs.Common.{rules, subst, map}
use Rattle.std.specs.Vec.Iter.{into_iter_items}
use Rattle.ioa_entries.specs.EffectLists.{choice, led_on}
use Rattle.ioa_entries.specs.EffectViews.{arm_tree}
use Rattle.ioa_entries.proofs.Led.{next_arm}
use Rattle.ioa_entries.proofs.effects.branches_of.Goals as goal

pub loop-arm-preserved : goal.loop-arm-preserved
loop-arm-preserved c = record {
  led = next_arm c.loop-arm.parts c.push.new.self c.in-Some-branch_of.branch c.in-Some.arm (into_iter_items c.loop-arm.arm-iterator) (into_iter_items c.next.new.self)
      (λ rest. choice (map arm_tree (into_iter_items c.into_iter-arm-iterator.result)) rest) (search rules) (search rules) (search rules) c.loop-arm.invariant.led;
  left = search rules;
}
