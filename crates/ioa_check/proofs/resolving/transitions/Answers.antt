use Rattle.std.proofs.Common.{rules, arith, ◌≡◌, ◌∷◌, length, map, ap}
use Rattle.std.specs.Vec.Iter.{into_iter_items}
use Rattle.ioa_entries.specs.EntryViews.{meant_tree}
use Rattle.ioa_trees.specs.Meant.{IsWholeEntry}
use Rattle.ioa_check.specs.Resolutions.{transition_meaning}
use Rattle.ioa_check.proofs.Taken.{next_of, others_of, put}
use Rattle.ioa_check.proofs.resolving.transitions.Goals as goal

pub transition-requires : goal.transition-requires
transition-requires c = next_of IsWholeEntry meant_tree (into_iter_items c.loop-entry.entry-iterator) (into_iter_items c.next.new.self) c.in-Some.entry c.in-Some.ensures.steps.0 c.loop-entry.invariant.whole

pub loop-entry-preserved : goal.loop-entry-preserved
loop-entry-preserved c =
    let at = c.loop-entry in
    let steps : into_iter_items at.entry-iterator ≡ c.in-Some.entry ∷ into_iter_items c.next.new.self = c.in-Some.ensures.steps.0 in
    let short = ap length steps in
    record {
      taken = put transition_meaning at.found.items c.push.new.self.items c.in_ok-transition.field-0 (meant_tree c.in-Some.entry) (map meant_tree (into_iter_items at.entry-iterator)) (map meant_tree (into_iter_items c.next.new.self)) _ (search rules) c.in_ok-transition.ensures (ap (map meant_tree) steps) at.invariant.taken;
      whole = others_of IsWholeEntry meant_tree (into_iter_items at.entry-iterator) (into_iter_items c.next.new.self) c.in-Some.entry steps at.invariant.whole;
      left = omega (arith, short, at.invariant.left, c.in-Some.ensures.steps.1);
    }
