use Rattle.std.proofs.Common.{◌≡◌, ◌-◌, List, slice_set}
use Rattle.terms.specs.declared.scalar.Scalar.{Scalar}
use Rattle.terms.specs.Datum.{Datum}
use Rattle.terms.specs.EffectTree.{Assign}
use Rattle.terms.specs.Meaning.{each, turn, AreParts, IsPartOfTurn}
use Rattle.terms.specs.Scopes.{scope}
use Rattle.terms.specs.Shapes.{members, members_from, count}
use Rattle.terms.specs.TermTree.{term_tree}
use Rattle.evaluation.proofs.turning.assign_each.Given as goal

abbrev pub invariant-loop-k : goal.invariant-loop-k
invariant-loop-k g l =
    let values = g.C.Cells.values in
    let body = Assign l.cell (term_tree l.term) in
    let f = turn l.slot body (scope l.env) in
    let left = members_from l.listed l.k (count l.listed - l.k) in
    record {
      done : each f left (values l.cells) ≡ each f (members l.listed) (values l.initial.cells);
      parts : (d : List Datum) → AreParts f (IsPartOfTurn l.slot body (scope l.env)) left (values l.cells) d → AreParts f (IsPartOfTurn l.slot body (scope l.env)) (members l.listed) (values l.initial.cells) d;
      marked : g.C.Cells.marked l.cells ≡ g.C.Cells.marked l.initial.cells;
      formals : l.inner.formals ≡ l.env.formals;
      parameters : l.inner.parameters ≡ l.env.parameters;
      loops : (member : Scalar) → slice_set l.inner.loops l.slot member ≡ slice_set l.env.loops l.slot member;
    }
