use Rattle.std.proofs.Common.{◌≡◌, ◌-◌, List, map, drop, slice_set}
use Rattle.terms.specs.declared.scalar.Scalar.{Scalar}
use Rattle.terms.specs.Datum.{Datum}
use Rattle.terms.specs.Meaning.{each, turn, after, AreParts, IsPart, IsPartOfTurn}
use Rattle.terms.specs.Shapes.{members, members_from, count}
use Rattle.terms.specs.Scopes.{scope}
use Rattle.terms.specs.EffectTree.{ended, effect_tree, last_tree, part_tree}
use Rattle.evaluation.proofs.perform.+run.Given as goal

abbrev pub invariant-run_each-loop-k : goal.invariant-run_each-loop-k
invariant-run_each-loop-k g l =
    let values = g.C.Cells.values in
    let f = turn l.slot (effect_tree l.body) (scope l.env) in
    let left = members_from l.listed l.k (count l.listed - l.k) in
    record {
      done : each f left (values l.cells) ≡ each f (members l.listed) (values l.initial.cells);
      parts : (d : List Datum) → AreParts f (IsPartOfTurn l.slot (effect_tree l.body) (scope l.env)) left (values l.cells) d → AreParts f (IsPartOfTurn l.slot (effect_tree l.body) (scope l.env)) (members l.listed) (values l.initial.cells) d;
      marked : g.C.Cells.marked l.cells ≡ g.C.Cells.marked l.initial.cells;
      formals : l.inner.formals ≡ l.env.formals;
      parameters : l.inner.parameters ≡ l.env.parameters;
      loops : (member : Scalar) → slice_set l.inner.loops l.slot member ≡ slice_set l.env.loops l.slot member;
    }

abbrev pub invariant-run-loop-part : goal.invariant-run-loop-part
invariant-run-loop-part g l =
    let values = g.C.Cells.values in
    let left = ended (map part_tree (drop l.part-index l.effect.parts.items)) (last_tree l.effect.last) in
    let all = effect_tree l.effect in
    record {
      done : after left (scope l.env) (values l.cells) ≡ after all (scope l.env) (values l.initial.cells);
      parts : (d : List (Datum)) → IsPart left (scope l.env) (values l.cells) d → IsPart all (scope l.env) (values l.initial.cells) d;
      marked : g.C.Cells.marked l.cells ≡ g.C.Cells.marked l.initial.cells;
    }
