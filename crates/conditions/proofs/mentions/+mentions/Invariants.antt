use Rattle.std.proofs.Common.{◌≡◌, map, drop}
use Rattle.conditions.specs.Mentions.{links_mention}
use Rattle.terms.specs.TermTree.{link_tree}
use Rattle.conditions.proofs.mentions.+mentions.Given as goal

abbrev pub invariant-links_mention-loop-link : goal.invariant-links_mention-loop-link
invariant-links_mention-loop-link l =
    links_mention l.p (map link_tree (drop l.link-index l.links)) ≡ links_mention l.p (map link_tree l.links)
