use Rattle.std.proofs.Common.{◌≡◌, map, drop}
use Rattle.terms.specs.Datum.{Just}
use Rattle.terms.specs.Linked.{values_on}
use Rattle.terms.specs.Scopes.{scope}
use Rattle.terms.specs.TermTree.{link_tree}
use Rattle.terms.specs.declared.scalar.Scalar.TheVariants.{Int}
use Rattle.evaluation.proofs.plain.+sums.Given as goal

abbrev pub invariant-made_up_on-loop-link : goal.invariant-made_up_on-loop-link
invariant-made_up_on-loop-link g l =
    values_on (map link_tree (drop l.link-index l.links)) (scope l.env) (g.C.Cells.values l.cells) (Just (Int l.number)) ≡ values_on (map link_tree l.links) (scope l.env) (g.C.Cells.values l.cells) (Just (Int l.initial.number))
