-- Numbers in a tournament: to each node above two comes the lesser of theirs.
use Rattle.std.specs.Prelude.{◌≡◌, ℕ, ◌+◌, ◌*◌, ◌≤◌, ◌<◌, min, List, length, slice_index_or}

-- the number at a node, and the greatest of 64 bits where there is no such node; node 1 is the root, and the nodes below node k are 2 * k and
-- 2 * k + 1
abbrev pub node : List ℕ → ℕ → ℕ
node nodes k = slice_index_or nodes k 18446744073709551615

-- the lesser number of the two nodes below came to the node
abbrev pub IsSettled : List ℕ → ℕ → Type 0
IsSettled nodes k = node nodes k ≡ min (node nodes (2 * k)) (node nodes (2 * k + 1))

-- a tournament of so many numbers, which stand at the nodes from that one on
pub record IsTournament (count : ℕ) (nodes : List ℕ) : Type 0 where
  pub many : length nodes ≡ 2 * count
  pub settled : (k : ℕ) → 1 ≤ k → k < count → IsSettled nodes k
