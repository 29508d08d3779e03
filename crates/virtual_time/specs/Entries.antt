-- Messages and done entries of one component.
use Rattle.std.specs.Prelude.{ℕ, suc, ◌==◌, cond, nat_lt, Option, None, Some, List, [], ◌∷◌}
use Rattle.virtual_time.specs.Machine.{Machine}

-- A message to a component: the key at which it was sent, which is the key at which it is received, and the action.
pub record Item (Action : Type 0) : Type 0 where
  pub key : ℕ
  pub action : Action

-- What a component has done: a turn of its own with its outcome, or an input.
pub data Entry (Action : Type 0) : Type 0 where
  Own : ℕ → Option Action → Entry Action
  Input : Item Action → Entry Action

-- The key of an entry.
abbrev pub entry_key : {A : Type 0} → Entry A → ℕ
entry_key (Own k o) = k
entry_key (Input x) = x.key

-- The number of the next turn after these entries, where n is that of the first.
abbrev pub number : {A : Type 0} → ℕ → List (Entry A) → ℕ
number n [] = n
number n (Own k o ∷ es) = suc (number n es)
number n (Input x ∷ es) = number n es

-- The state after the component's own turn.
abbrev pub by_own : {S A : Type 0} → Machine S A → ℕ → Option A → S → S
by_own machine i None s = s
by_own machine i (Some a) s = machine.apply i a s

-- The state after these entries, done one after the other from state s.
abbrev pub replay : {S A : Type 0} → Machine S A → ℕ → S → List (Entry A) → S
replay machine i s [] = s
replay machine i s (Own k o ∷ es) = by_own machine i o (replay machine i s es)
replay machine i s (Input x ∷ es) = machine.apply i x.action (replay machine i s es)

-- The key of the last done entry, or the bound where nothing is done.
abbrev pub latest : {A : Type 0} → ℕ → List (Entry A) → ℕ
latest g [] = g
latest g (e ∷ es) = entry_key e

-- The entries below a bound, of entries in order.
abbrev pub below : {A : Type 0} → ℕ → List (Entry A) → List (Entry A)
below c [] = []
below c (e ∷ es) = cond (nat_lt (entry_key e) c) (e ∷ es) (below c es)

-- The entries at or above a bound, of entries in order.
abbrev pub from : {A : Type 0} → ℕ → List (Entry A) → List (Entry A)
from c [] = []
from c (e ∷ es) = cond (nat_lt (entry_key e) c) [] (e ∷ from c es)

-- The outcome of the own turn at the key, if it is done.
abbrev pub turn_at : {A : Type 0} → ℕ → List (Entry A) → Option (Option A)
turn_at k [] = None
turn_at k (Own k' o ∷ es) = cond (k' == k) (Some o) (turn_at k es)
turn_at k (Input x ∷ es) = turn_at k es
