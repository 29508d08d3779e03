-- The turns that a chunk gives.
use Rattle.std.specs.Prelude.{◌≡◌, ℕ, ◌++◌, Bool, false, if◌then◌else◌, nat_lt, List, [], ◌∷◌, length}
use Rattle.terms.specs.Datum.{Datum}
use Rattle.terms.specs.Named.{Named}
use Rattle.event_keys.specs.declared.key.Bound.{Bound}
use Rattle.event_keys.specs.declared.outcome.Turned.{Turned}
use Rattle.event_keys.specs.Ranks.{rank}
use Rattle.virtual_time.specs.Machine.{Machine}
use Rattle.virtual_time.specs.Reference.{Turn, reference_below}
use Rattle.group_exchange.specs.declared.stub.Stub.{Stub}

abbrev pub base_of : Stub → Bound
base_of stub = stub.base

-- the first turn is below a bound
abbrev pub is_first_below : ℕ → List Turned → Bool
is_first_below b [] = false
is_first_below b (t ∷ ts) = nat_lt (rank t.key) b

-- the first turns, as long as they are below a bound
abbrev pub first_below : ℕ → List Turned → List Turned
first_below b [] = []
first_below b (t ∷ ts) = if nat_lt (rank t.key) b then t ∷ first_below b ts else []

-- the turns after these
abbrev pub first_from : ℕ → List Turned → List Turned
first_from b [] = []
first_from b (t ∷ ts) = if nat_lt (rank t.key) b then first_from b ts else t ∷ ts

-- after so many turns of the reference these are its next ones, up to a bound, the last one first
pub record IsGiven (m : Machine (List Datum) Named) (first bound : ℕ) (turns : List (Turn Named)) : Type 0 where
  -- below a bound these were given before
  pub old : ℕ
  pub before : first ≡ length (reference_below m old)
  -- and below this one these too
  pub next : reference_below m bound ≡ turns ++ reference_below m old
