-- Seats in a tournament: to each node above two comes the earlier of theirs.
use Rattle.std.specs.Prelude.{◌≡◌, ℕ, ◌+◌, ◌*◌, ◌^◌, ◌≤◌, ◌<◌, cond, nat_lt, List, length, slice_index_or}
use Rattle.groups.specs.declared.seats.Seat.{Seat}

-- a seat of nobody, who has nothing to do
abbrev pub empty : Seat
empty = record { front = 2 ^ 80; number = 0; place = 0 }

-- the seat at a node; node 1 is the root, and the nodes below node k are 2 * k and 2 * k + 1
abbrev pub node : List Seat → ℕ → Seat
node nodes k = slice_index_or nodes k empty

-- the key of what is next at a seat
abbrev pub key_at : Seat → ℕ
key_at seat = seat.front * 2 ^ 64 + seat.number

-- the one that is next first, the left one where both are next at once
abbrev pub earlier : Seat → Seat → Seat
earlier left right = cond (nat_lt (key_at right) (key_at left)) right left

-- the earlier of the two seats below came to the node
abbrev pub IsSettled : List Seat → ℕ → Type 0
IsSettled nodes k = node nodes k ≡ earlier (node nodes (2 * k)) (node nodes (2 * k + 1))

-- a tournament of so many seats, which stand at the nodes from that one on
pub record IsTournament (count : ℕ) (nodes : List Seat) : Type 0 where
  pub many : length nodes ≡ 2 * count
  pub settled : (k : ℕ) → 1 ≤ k → k < count → IsSettled nodes k
