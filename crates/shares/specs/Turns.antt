-- The turns of a setup by the groups of their components.
use Rattle.std.specs.Prelude.{◌≡◌, ◌<◌, ◌≤◌, ℕ, Option, Some, List, length, slice_index}
use Rattle.terms.specs.Named.{Named}
use Rattle.event_keys.specs.Ranks.{rank, owner_of}
use Rattle.virtual_time.specs.Reference.{point, reference_turn}
use Rattle.task_seed.specs.Machines.{machine}
use Rattle.task_seed.specs.Turning.{System, turn_in}
use Rattle.reference.specs.declared.agenda.Due.{Due}
use Rattle.reference.specs.Queues.{IsSmall}

-- the group of a component, where the list has of each component its group
abbrev pub group_at : List ℕ → ℕ → ℕ
group_at groups i = slice_index groups i

-- the reference has a turn at a rank, with this outcome
abbrev pub HasTurn : System → ℕ → Option Named → Type 0
HasTurn s r outcome = reference_turn (machine s) r ≡ Some outcome

-- no component of a group has a turn from one rank up to another
abbrev pub NoTurn : System → List ℕ → (group from to : ℕ) → Type 0
NoTurn s groups group from to = (r : ℕ) (outcome : Option Named) → from ≤ r → r < to → HasTurn s r outcome → group_at groups (owner_of r) ≡ group → ⊥

-- the reference has a turn at this key, whatever comes of it: the next one of its component, which was drawn so
pub record IsComing (s : System) (due : Due) : Type 0 where
  pub small : IsSmall due.key
  pub within : due.key.component < length s.composition
  pub number : due.key.number ≡ (point (machine s) (rank due.key)).next due.key.component
  pub turn : Some due.turn ≡ turn_in s due.key.component due.key.number
  pub outcome : Option Named
  pub comes : HasTurn s (rank due.key) outcome
