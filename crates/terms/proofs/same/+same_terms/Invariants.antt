use Rattle.std.proofs.Common.{◌≡◌, map, drop}
use Rattle.terms.specs.SameTrees.{same_links}
use Rattle.terms.specs.TermTree.{link_tree}
use Rattle.terms.proofs.same.+same_terms.Given as goal

abbrev pub invariant-are_same_links-loop-at : goal.invariant-are_same_links-loop-at
invariant-are_same_links-loop-at l =
    same_links (map link_tree (drop l.at l.a)) (map link_tree (drop l.at l.b)) ≡ same_links (map link_tree l.a) (map link_tree l.b)
