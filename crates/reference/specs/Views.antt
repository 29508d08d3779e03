-- A simulator as its callers see it.
use Rattle.std.specs.Prelude.{◌≡◌, ℕ, ◌≤◌, Option, None, Some, List, ◌∷◌}
use Rattle.terms.specs.Datum.{Datum}
use Rattle.terms.specs.Named.{Named}
use Rattle.event_keys.specs.declared.outcome.Turned.{Turned}
use Rattle.virtual_time.specs.Machine.{Machine}
use Rattle.virtual_time.specs.Reference.{Turn, IsNext, IsReference, after, reference_below}
use Rattle.task_seed.specs.Taken.{turn_of}

-- a setup, and the turns that were taken, the last one first
pub record Ran (P : Type 0) : Type 0 where
  pub setup : P
  pub taken : List (Turn Named)

-- one more turn is taken, the next one; or all turns that there are were taken
abbrev pub IsNextTurn : Machine (List Datum) Named → List (Turn Named) → Option Turned → List (Turn Named) → Type 0
IsNextTurn m old None new = IsReference m m.top old × (new ≡ old)
IsNextTurn m old (Some turned) new = IsNext m (after m old) (turn_of turned) × (new ≡ turn_of turned ∷ old)

-- these turns are all that have keys below some bound
pub record IsComplete (m : Machine (List Datum) Named) (taken : List (Turn Named)) : Type 0 where
  pub bound : ℕ
  pub within : bound ≤ m.top
  pub is : taken ≡ reference_below m bound
