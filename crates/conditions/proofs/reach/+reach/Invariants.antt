use Rattle.std.proofs.Common.{◌≡◌, map, drop}
use Rattle.std.specs.Prelude.{max}
use Rattle.conditions.specs.Reach.{links_reach}
use Rattle.terms.specs.TermTree.{link_tree}
use Rattle.conditions.proofs.reach.+reach.Given as goal

abbrev pub invariant-links_reach-loop-link : goal.invariant-links_reach-loop-link
invariant-links_reach-loop-link l =
    max l.reach (links_reach (map link_tree (drop l.link-index l.links))) ≡ links_reach (map link_tree l.links)
