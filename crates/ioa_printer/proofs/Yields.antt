-- The tokens of packed nodes, and of nodes that follow others.
use Rattle.std.proofs.Common.{◌≡◌, List, [], ◌∷◌, ◌++◌, append_assoc, refl, sym, ◌∙◌, ap}
use Rattle.ioa_trees.specs.Nodes.{Node, pack, yield, yields, yield_nodes}

pub yields_pack : (ns : List Node) → yield_nodes (pack ns) ≡ yields ns
yields_pack [] = refl
yields_pack (n ∷ ns) = ap (λ z. yield n ++ z) (yields_pack ns)

pub yields_append : (ns ms : List Node) → yields (ns ++ ms) ≡ yields ns ++ yields ms
yields_append [] ms = refl
yields_append (n ∷ ns) ms = ap (λ z. yield n ++ z) (yields_append ns ms) ∙ sym (append_assoc (yield n) (yields ns) (yields ms))
