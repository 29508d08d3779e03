use Rattle.std.proofs.Common.{◌≡◌, map, drop}
use Rattle.terms.specs.Mentions.{links_mention}
use Rattle.terms.specs.TermTree.{link_tree}
use Rattle.terms.proofs.mentions.+mentions.Given as goal

abbrev pub invariant-links_mention-loop-link : goal.invariant-links_mention-loop-link
invariant-links_mention-loop-link l =
    links_mention (map link_tree (drop l.link-index l.links)) ≡ links_mention (map link_tree l.links)
