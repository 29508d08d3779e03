-- The turns that come, before it is known what comes of them.
use Rattle.std.specs.Prelude.{◌≡◌, ℕ, ◌≤◌, ◌<◌, Option, None, Some, List, ◌∷◌, length, slice_get}
use Rattle.terms.specs.Datum.{Datum}
use Rattle.terms.specs.Named.{Named}
use Rattle.event_keys.specs.declared.key.Key.{Key}
use Rattle.event_keys.specs.Ranks.{rank}
use Rattle.undo_records.specs.States.{States}
use Rattle.virtual_time.specs.Machine.{Machine}
use Rattle.virtual_time.specs.Reference.{point, reference_below}
use Rattle.task_seed.specs.declared.clock.Clock.{Clock}
use Rattle.task_seed.specs.declared.setup.Setup.{Setup}
use Rattle.task_seed.specs.declared.turns.Turn.{Turn}
use Rattle.task_seed.specs.Machines.{machine, end_rank}
use Rattle.task_seed.specs.Setups.{system}
use Rattle.task_seed.specs.Taken.{turn_of as seen, turned_of}
use Rattle.task_seed.specs.Turning.{System, turn_in}
use Rattle.reference.specs.declared.agenda.Due.{Due}
use Rattle.reference.specs.Clocks.{AreClocks}
use Rattle.reference.specs.Queues.{IsQueue, IsSmall, least_rank, rank_or_end}
use Rattle.reference.specs.Taking.{plain}

-- a setup, and the key of the turn that comes next, if one is left
pub record Coming (P : Type 0) : Type 0 where
  pub setup : P
  pub next : Option Key

-- the reference takes the turn of this key with this outcome, and then none before the one with the next key
abbrev pub HasCome : Machine (List Datum) Named → Key → Option Named → Option Key → Type 0
HasCome m key outcome next = reference_below m (rank_or_end next) ≡ seen (turned_of outcome key) ∷ reference_below m (rank key)

-- the reference takes this turn at its key, whatever comes of it, and then none before the one with the next key
pub record IsDue (s : System) (due : Due) (next : Option Key) : Type 0 where
  pub small : IsSmall due.key
  pub within : due.key.component < length s.composition
  -- it is the next one of its component, and was drawn so
  pub number : due.key.number ≡ (point (machine s) (rank due.key)).next due.key.component
  pub turn : Some due.turn ≡ turn_in s due.key.component due.key.number
  pub outcome : Option Named
  pub comes : HasCome (machine s) due.key outcome next
  pub low : rank_or_end next ≤ end_rank

-- the turn that came is drawn, and the next one comes; or none is left
abbrev pub IsDrawn : System → Option Key → Option Due → Option Key → Type 0
IsDrawn s old None new = (old ≡ None) × (new ≡ None)
IsDrawn s old (Some due) new = (old ≡ Some due.key) × IsDue s due new

-- these are the queue and the clocks of the components before the least key of the queue
pub record IsLined {T : Type 0} (turn_of : T → ℕ → ℕ → Option Turn) (setup : Setup T) (places numbers : List ℕ) (own : List Clock) : Type 0 where
  pub queue : let s = system turn_of setup in IsQueue s (length s.composition) (point (machine s) (least_rank places numbers)).next places numbers
  pub clocks : AreClocks turn_of setup numbers own

-- these are the states of the components before the turn with this key
pub record AreBefore (s : System) (next : Option Key) (states : List States) : Type 0 where
  pub many : length states ≡ length s.composition
  pub currents : (j : ℕ) (state : States) → slice_get states j ≡ Some state → state ≡ plain ((point (machine s) (rank_or_end next)).state j)
