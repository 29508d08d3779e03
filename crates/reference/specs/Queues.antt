-- The keys of the components' next turns, in a tournament.
use Rattle.std.specs.Prelude.{◌≡◌, ℕ, ◌+◌, ◌*◌, ◌/◌, ◌%◌, ◌<◌, ◌≤◌, ◌==◌, if◌then◌else◌, Option, None, Some, IfSome, List, length, slice_index_or}
use Rattle.event_keys.specs.declared.key.Key.{Key}
use Rattle.event_keys.specs.Ranks.{rank}
use Rattle.task_seed.specs.Turning.{System, key_of}
use Rattle.task_seed.specs.Machines.{end_rank}
use Rattle.gvt.specs.Tournaments.{IsTournament, node}

-- the tick and the component of a key as one number, and the greatest of 64 bits where there is no key
abbrev pub place_of : Option Key → ℕ
place_of None = 18446744073709551615
place_of (Some key) = key.tick * 65536 + key.component

-- a key that may be that of a turn
pub record IsSmall (key : Key) : Type 0 where
  pub tick : key.tick ≤ 4294967296
  pub component : key.component < 65536
  pub number : key.number < 4294967296

-- a tournament of n places, the first so many of which are those of the components' next turns
pub record ArePlaced (s : System) (n first : ℕ) (next : ℕ → ℕ) (places : List ℕ) : Type 0 where
  pub tournament : IsTournament n places
  pub placed : (j : ℕ) → j < first → node places (n + j) ≡ place_of (key_of s j (next j))
  pub small : (j : ℕ) → j < first → IfSome (key_of s j (next j)) IsSmall

-- the places of the next turns of the n components are in a tournament, and these are the numbers of those turns
pub record IsQueue (s : System) (n : ℕ) (next : ℕ → ℕ) (nodes numbers : List ℕ) : Type 0 where
  pub places : ArePlaced s n n next nodes
  pub many : length numbers ≡ n
  pub numbered : (j : ℕ) → j < n → slice_index_or numbers j 0 ≡ next j

-- the key at a place
abbrev pub key_at : ℕ → List ℕ → Key
key_at place numbers = record { tick = place / 65536; component = place % 65536; number = slice_index_or numbers (place % 65536) 0 }

-- where there is a least key, its component has a number
abbrev pub HasItsNumber : List ℕ → List ℕ → Type 0
HasItsNumber places numbers = (node places 1 ≡ 18446744073709551615 → ⊥) → node places 1 % 65536 < length numbers

-- the least key, if there is a key
abbrev pub least_key : List ℕ → List ℕ → Option Key
least_key places numbers = if node places 1 == 18446744073709551615 then None else Some (key_at (node places 1) numbers)

-- the rank of a key, or that of the end where there is none
abbrev pub rank_or_end : Option Key → ℕ
rank_or_end None = end_rank
rank_or_end (Some key) = rank key

abbrev pub least_rank : List ℕ → List ℕ → ℕ
least_rank places numbers = rank_or_end (least_key places numbers)
