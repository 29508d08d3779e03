use Rattle.std.proofs.Common.{rules, arith, ◌≡◌, ◌∷◌, Some, length, map, refl, ap}
use Rattle.std.specs.Vec.Iter.{into_iter_items}
use Rattle.terms.specs.TermTree.{term_tree}
use Rattle.ioa_typing.specs.TermViews.{core_tree}
use Rattle.ioa_check.specs.declared.resolved.Variable.{Variable}
use Rattle.compose.specs.Instances.{term_or_true}
use Rattle.compose.proofs.Grown.{put}
use Rattle.compose.proofs.instances.automata.starts.Goals as goal

pub loop-variable-preserved : goal.loop-variable-preserved
loop-variable-preserved c =
    let at = c.loop-variable in
    let steps : into_iter_items at.variable-iterator ≡ c.in-Some.variable ∷ into_iter_items c.next.new.self = c.in-Some.ensures.steps.0 in
    let short = ap length steps in
    record {
      taken = put term_tree at.found.items c.push.new.self.items c.in-Some.variable.start (term_tree c.in-Some.variable.start) (map term_or_true (map (λ (v : Variable). core_tree (Some v.start)) (into_iter_items at.variable-iterator))) (map term_or_true (map (λ (v : Variable). core_tree (Some v.start)) (into_iter_items c.next.new.self))) _ (search rules) refl (ap (λ l. map term_or_true (map (λ (v : Variable). core_tree (Some v.start)) l)) steps) at.invariant.taken;
      left = omega (arith, short, at.invariant.left, c.in-Some.ensures.steps.1);
    }
