-- How many leaves a node has, and that they are its tokens.
use Rattle.std.proofs.Common.{◌≡◌, ℕ, ◌+◌, List, [], ◌∷◌, ◌++◌, length, length-append, refl, arith}
use Rattle.ioa_trees.specs.Nodes.{Node, Leaf, Branch, Nodes, none, more, pack, yield, yield_nodes}

abbrev mutual
  pub count : Node → ℕ
  count (Leaf t) = 1
  count (Branch s ns) = counts ns

  pub counts : Nodes → ℕ
  counts none = 0
  counts (more n ns) = count n + counts ns

mutual
  pub counted : (n : Node) → length (yield n) ≡ count n
  counted (Leaf t) = refl
  counted (Branch s ns) = all_counted ns

  pub all_counted : (ns : Nodes) → length (yield_nodes ns) ≡ counts ns
  all_counted none = refl
  all_counted (more n ns) = omega (arith, length-append (yield n) (yield_nodes ns), counted n, all_counted ns)

pub counts_append : (ns ms : List Node) → counts (pack (ns ++ ms)) ≡ counts (pack ns) + counts (pack ms)
counts_append [] ms = omega arith
counts_append (n ∷ ns) ms = omega (arith, counts_append ns ms)
