use Rattle.std.proofs.Common.{◌≡◌, map, drop}
use Rattle.terms.specs.Linked.{values_on, so_far}
use Rattle.terms.specs.Scopes.{scope}
use Rattle.terms.specs.TermTree.{link_tree}
use Rattle.evaluation.proofs.typed.+truths.Given as goal

abbrev pub invariant-truths_on-loop-link : goal.invariant-truths_on-loop-link
invariant-truths_on-loop-link g l =
    values_on (map link_tree (drop l.link-index l.links)) (scope l.env) (g.C.Cells.values l.cells) (so_far l.number l.truth) ≡ values_on (map link_tree l.links) (scope l.env) (g.C.Cells.values l.cells) (so_far l.initial.number l.initial.truth)
