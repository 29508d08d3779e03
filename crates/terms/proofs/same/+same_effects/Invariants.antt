use Rattle.std.proofs.Common.{◌≡◌, map, drop}
use Rattle.terms.specs.SameTrees.{same_parts}
use Rattle.terms.specs.EffectTree.{part_tree}
use Rattle.terms.proofs.same.+same_effects.Given as goal

abbrev pub invariant-are_same_parts-loop-at : goal.invariant-are_same_parts-loop-at
invariant-are_same_parts-loop-at l =
    same_parts (map part_tree (drop l.at l.a)) (map part_tree (drop l.at l.b)) ≡ same_parts (map part_tree l.a) (map part_tree l.b)
