use Rattle.std.proofs.Common.{◌≡◌, map, drop}
use Rattle.terms.specs.Linked.{values_on}
use Rattle.evaluation.specs.Seen.{seen}
use Rattle.terms.specs.Scopes.{scope}
use Rattle.terms.specs.TermTree.{link_tree}
use Rattle.evaluation.proofs.look.+look.Given as goal

abbrev pub invariant-look_on-loop-link : goal.invariant-look_on-loop-link
invariant-look_on-loop-link g l =
    values_on (map link_tree (drop l.link-index l.links)) (scope l.env) (g.C.Cells.values l.cells) (seen l.value) ≡ values_on (map link_tree l.links) (scope l.env) (g.C.Cells.values l.cells) (seen l.initial.value)
