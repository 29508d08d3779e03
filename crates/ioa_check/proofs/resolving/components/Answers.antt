use Rattle.std.proofs.Common.{rules, arith, ◌≡◌, ◌∷◌, length, map, ap}
use Rattle.std.specs.Vec.Iter.{into_iter_items}
use Rattle.ioa_check.specs.ComponentViews.{component_tree}
use Rattle.ioa_trees.specs.Meant.{IsWholeComponent}
use Rattle.ioa_check.specs.Resolutions.{component_meaning}
use Rattle.ioa_check.proofs.Taken.{next_of, others_of, put}
use Rattle.ioa_check.proofs.resolving.components.Goals as goal

pub component-requires : goal.component-requires
component-requires c = next_of IsWholeComponent component_tree (into_iter_items c.loop-one.one-iterator) (into_iter_items c.next.new.self) c.in-Some.one c.in-Some.ensures.steps.0 c.loop-one.invariant.whole

pub loop-one-preserved : goal.loop-one-preserved
loop-one-preserved c =
    let at = c.loop-one in
    let steps : into_iter_items at.one-iterator ≡ c.in-Some.one ∷ into_iter_items c.next.new.self = c.in-Some.ensures.steps.0 in
    let short = ap length steps in
    record {
      taken = put component_meaning at.found.items c.push.new.self.items c.in_ok-component.field-0 (component_tree c.in-Some.one) (map component_tree (into_iter_items at.one-iterator)) (map component_tree (into_iter_items c.next.new.self)) _ (search rules) c.in_ok-component.ensures (ap (map component_tree) steps) at.invariant.taken;
      whole = others_of IsWholeComponent component_tree (into_iter_items at.one-iterator) (into_iter_items c.next.new.self) c.in-Some.one steps at.invariant.whole;
      left = omega (arith, short, at.invariant.left, c.in-Some.ensures.steps.1);
    }
