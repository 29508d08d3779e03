use Rattle.std.proofs.Common.{◌≡◌, map, drop}
use Rattle.terms.specs.Datum.{Just}
use Rattle.terms.specs.Linked.{values_on}
use Rattle.terms.specs.Scopes.{scope}
use Rattle.terms.specs.TermTree.{link_tree}
use Rattle.evaluation.proofs.glance.+glance.Given as goal

abbrev pub invariant-with_links-loop-link : goal.invariant-with_links-loop-link
invariant-with_links-loop-link g l =
    values_on (map link_tree (drop l.link-index l.links)) (scope l.env) (g.C.Cells.values l.cells) (Just l.scalar) ≡ values_on (map link_tree l.links) (scope l.env) (g.C.Cells.values l.cells) (Just l.initial.scalar)
