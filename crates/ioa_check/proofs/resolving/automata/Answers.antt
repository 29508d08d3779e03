use Rattle.std.proofs.Common.{rules, arith, ◌≡◌, ◌∷◌, ◌++◌, length, map, sym, ap, subst}
use Rattle.std.specs.Vec.Iter.{into_iter_items}
use Rattle.std.specs.List.{All}
use Rattle.ioa_check.specs.Meant.{automaton_tree}
use Rattle.ioa_trees.specs.Meant.{IsWholeAutomaton}
use Rattle.ioa_check.specs.Resolutions.{automaton_meaning}
use Rattle.ioa_check.proofs.Taken.{next_of, others_of, put}
use Rattle.ioa_check.proofs.resolving.automata.Goals as goal

pub automaton-requires : goal.automaton-requires
automaton-requires c = next_of IsWholeAutomaton automaton_tree (into_iter_items c.loop-one.one-iterator) (into_iter_items c.next.new.self) c.in-Some.one c.in-Some.ensures.steps.0 c.loop-one.invariant.whole

pub loop-one-preserved : goal.loop-one-preserved
loop-one-preserved c =
    let at = c.loop-one in
    let steps : into_iter_items at.one-iterator ≡ c.in-Some.one ∷ into_iter_items c.next.new.self = c.in-Some.ensures.steps.0 in
    let short = ap length steps in
    record {
      taken = put automaton_meaning at.found.items c.push.new.self.items c.in_ok-automaton.field-0 (automaton_tree c.in-Some.one) (map automaton_tree (into_iter_items at.one-iterator)) (map automaton_tree (into_iter_items c.next.new.self)) _ (search rules) c.in_ok-automaton.ensures (ap (map automaton_tree) steps) at.invariant.taken;
      whole = others_of IsWholeAutomaton automaton_tree (into_iter_items at.one-iterator) (into_iter_items c.next.new.self) c.in-Some.one steps at.invariant.whole;
      left = omega (arith, short, at.invariant.left, c.in-Some.ensures.steps.1);
    }

pub loop-one-init : goal.loop-one-init
loop-one-init c = record {
  taken = ap (λ xs. map automaton_meaning xs ++ map automaton_tree (into_iter_items c.into_iter-one-iterator.result)) c.new-found.ensures.items;
  whole = subst (λ l. All IsWholeAutomaton (map automaton_tree l)) (sym c.into_iter-one-iterator.ensures.into_iter_gives.0) c.requires;
  left = search rules;
}
