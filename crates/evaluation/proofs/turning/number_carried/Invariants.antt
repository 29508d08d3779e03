use Rattle.std.proofs.Common.{◌≡◌, ◌-◌, map, slice_set}
use Rattle.terms.specs.declared.scalar.Scalar.{Scalar}
use Rattle.terms.specs.declared.scalar.Scalar.TheVariants.{Int}
use Rattle.terms.specs.Datum.{Just}
use Rattle.terms.specs.Scopes.{scope}
use Rattle.terms.specs.Shapes.{members, members_from, count}
use Rattle.terms.specs.TermTree.{link_tree}
use Rattle.evaluation.specs.Turning.{carried}
use Rattle.evaluation.proofs.turning.number_carried.Given as goal

abbrev pub invariant-loop-turn : goal.invariant-loop-turn
invariant-loop-turn g l =
    let all = carried l.slot (map link_tree l.links) (scope l.env) (g.C.Cells.values l.cells) in
    record {
      done : all (members_from l.listed l.turn (count l.listed - l.turn)) (Just (Int l.number)) ≡ all (members l.listed) (Just (Int l.initial.number));
      formals : l.inner.formals ≡ l.env.formals;
      parameters : l.inner.parameters ≡ l.env.parameters;
      loops : (member : Scalar) → slice_set l.inner.loops l.slot member ≡ slice_set l.env.loops l.slot member;
    }
