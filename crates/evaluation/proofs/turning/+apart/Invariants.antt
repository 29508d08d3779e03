use Rattle.std.proofs.Common.{map, drop}
use Rattle.terms.specs.TermTree.{link_tree}
use Rattle.evaluation.specs.Turning.{AreApart}
use Rattle.evaluation.proofs.turning.+apart.Given as goal

abbrev pub invariant-are_apart-loop-link : goal.invariant-are_apart-loop-link
invariant-are_apart-loop-link l =
    AreApart l.cell (map link_tree (drop l.link-index l.links)) → AreApart l.cell (map link_tree l.links)
