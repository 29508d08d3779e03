use Rattle.std.proofs.Common.{◌≡◌, ◌++◌, map, drop}
use Rattle.terms.specs.TermTree.{link_tree}
use Rattle.conditions.proofs.copy.+copy.Given as goal

abbrev pub invariant-links_copy-loop-link : goal.invariant-links_copy-loop-link
invariant-links_copy-loop-link l =
    map link_tree l.copies.items ++ map link_tree (drop l.link-index l.links) ≡ map link_tree l.links
