-- The states of components before and after an action.
use Rattle.std.specs.Prelude.{◌≡◌, ℕ, ◌<◌, ◌==◌, cond, true, false, Option, Some, List, [], ◌∷◌, length, slice_get, option_map}
use Rattle.terms.specs.Datum.{Datum}
use Rattle.terms.specs.Named.{Named}
use Rattle.undo_records.specs.States.{States, without_first}
use Rattle.io_automata.specs.Automata.{Instance}
use Rattle.io_automata.specs.Receivers.{IsIn}
use Rattle.io_automata.specs.Signatures.{inputs}
use Rattle.io_automata.specs.Steps.{applied}
use Rattle.virtual_time.specs.Machine.{Machine}
use Rattle.virtual_time.specs.Reference.{joint}

-- one state alone
abbrev pub plain : List Datum → States
plain state = record { current = state; below = [] }

-- no number stands twice
abbrev pub Distinct : List ℕ → Type 0
Distinct [] = Unit {0}
Distinct (j ∷ js) = (IsIn j js ≡ false) × Distinct js

-- the state of component j after component i's turn
abbrev pub joining : Machine (List Datum) Named → ℕ → Option Named → ℕ → States → States
joining m i outcome j state = plain (joint m i outcome j state.current)

-- the state of component j after a change that these components make
abbrev pub changed : (ℕ → States → States) → List ℕ → ℕ → States → States
changed change takers j state = cond (IsIn j takers) (change j state) state

-- these components made a change, and the others did nothing
pub record IsPassed (change : ℕ → States → States) (takers : List ℕ) (olds news : List States) : Type 0 where
  pub many : length news ≡ length olds
  pub each : (j : ℕ) → slice_get news j ≡ option_map (changed change takers j) (slice_get olds j)

-- each of these components but component i has a marked state
abbrev pub AreMarked : ℕ → List ℕ → List States → Type 0
AreMarked i among states = (j : ℕ) (state : States) → IsIn j among ≡ true → (j ≡ i → ⊥) → slice_get states j ≡ Some state → 0 < length state.below

-- the current state is marked, and changed by an action
abbrev pub marking : List Instance → ℕ → Named → States → States
marking composition i action state = record { current = applied composition i action state.current; below = state.current ∷ state.below }

-- a change of all but component i
abbrev pub other_than : ℕ → (States → States) → ℕ → States → States
other_than i change j state = cond (j == i) state (change state)

-- what component j's state becomes by an action, which changes it where it takes that as an input
abbrev pub received : List Instance → Named → ℕ → List Datum → List Datum
received composition action j state = cond (inputs composition j action) (applied composition j action state) state

-- the current state is marked, and becomes what an action of component i makes of it, which isn't component j
abbrev pub reaching : List Instance → ℕ → Named → ℕ → States → States
reaching composition i action j = other_than i (λ state. record { current = received composition action j state.current; below = state.current ∷ state.below }) j

-- the state of component j after an action of component i, which it or these take: marked before
abbrev pub holding : List Instance → ℕ → Named → List ℕ → ℕ → States → States
holding composition i action among j state = cond (j == i) (marking composition i action state) (changed (reaching composition i action) among j state)

-- without the first state, where that of component i or one of these
abbrev pub released : ℕ → List ℕ → ℕ → States → States
released i among j state = cond (j == i) (without_first 1 state) (changed (other_than i (without_first 1)) among j state)
