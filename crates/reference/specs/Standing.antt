-- Where a simulator stands: the key of the next turn and the state of each component.
use Rattle.std.specs.Prelude.{◌≡◌, ℕ, Some, List, length, slice_get}
use Rattle.terms.specs.Datum.{Datum}
use Rattle.terms.specs.Named.{Named}
use Rattle.undo_records.specs.States.{States}
use Rattle.virtual_time.specs.Reference.{Turn, Point, point, reference_below}
use Rattle.task_seed.specs.Turning.{System}
use Rattle.task_seed.specs.Machines.{machine}
use Rattle.reference.specs.Queues.{IsQueue, least_rank}
use Rattle.reference.specs.Taking.{plain}

-- these are the queue and the states of the components at a point
pub record IsAt (s : System) (p : Point (List Datum)) (places numbers : List ℕ) (states : List States) : Type 0 where
  pub queue : IsQueue s (length s.composition) p.next places numbers
  pub states_many : length states ≡ length s.composition
  pub currents : (j : ℕ) (state : States) → slice_get states j ≡ Some state → state ≡ plain (p.state j)

-- the same at the point before the least key of the queue
abbrev pub IsBeforeLeast : System → List ℕ → List ℕ → List States → Type 0
IsBeforeLeast s places numbers states = IsAt s (point (machine s) (least_rank places numbers)) places numbers states

-- the turns that were taken where this is the queue, the last one first: all turns below its least key
abbrev pub taken_at : System → List ℕ → List ℕ → List (Turn Named)
taken_at s places numbers = reference_below (machine s) (least_rank places numbers)
