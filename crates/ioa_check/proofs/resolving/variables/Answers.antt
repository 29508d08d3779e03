use Rattle.std.proofs.Common.{rules, arith, ◌≡◌, ◌∷◌, Some, IsSome, Option, length, map, ap}
use Rattle.std.specs.Vec.Iter.{into_iter_items}
use Rattle.terms.specs.TermTree.{TermTree}
use Rattle.ioa_check.specs.AutomatonViews.{cell_kind, cell_start}
use Rattle.ioa_typing.specs.KindViews.{option_tree}
use Rattle.ioa_trees.specs.Kinds.{Kind}
use Rattle.ioa_typing.specs.TermViews.{core_tree}
use Rattle.ioa_check.specs.declared.resolved.Variable.{Variable}
use Rattle.ioa_check.proofs.Taken.{others_of, put}
use Rattle.ioa_check.proofs.resolving.variables.Goals as goal

pub loop-cell-preserved : goal.loop-cell-preserved
loop-cell-preserved c =
    let at = c.loop-cell in
    let steps : into_iter_items at.cell-iterator ≡ c.in-Some.cell ∷ into_iter_items c.next.new.self = c.in-Some.ensures.steps.0 in
    let short = ap length steps in
    record {
      kinds = put (λ (v : Variable). option_tree (Some v.kind)) at.found.items c.push.new.self.items c.variable.result (cell_kind c.in-Some.cell) (map cell_kind (into_iter_items at.cell-iterator)) (map cell_kind (into_iter_items c.next.new.self)) _ (search rules) c.variable.ensures.kind (ap (map cell_kind) steps) at.invariant.kinds;
      starts = put (λ (v : Variable). core_tree (Some v.start)) at.found.items c.push.new.self.items c.variable.result (cell_start c.in-Some.cell) (map cell_start (into_iter_items at.cell-iterator)) (map cell_start (into_iter_items c.next.new.self)) _ (search rules) c.variable.ensures.start (ap (map cell_start) steps) at.invariant.starts;
      some_kinds = others_of (λ (o : Option Kind). IsSome o) cell_kind (into_iter_items at.cell-iterator) (into_iter_items c.next.new.self) c.in-Some.cell steps at.invariant.some_kinds;
      some_starts = others_of (λ (o : Option TermTree). IsSome o) cell_start (into_iter_items at.cell-iterator) (into_iter_items c.next.new.self) c.in-Some.cell steps at.invariant.some_starts;
      left = omega (arith, short, at.invariant.left, c.in-Some.ensures.steps.1);
    }
