-- A group of all components, and what it hands over.
use Rattle.std.specs.Prelude.{◌≡◌, ℕ, ◌+◌, ◌++◌, ◌≤◌, ◌<◌, true, Option, None, IsSome, List, [], ◌∷◌, drop, length, map, take}
use Rattle.event_keys.specs.declared.key.Key.{Key}
use Rattle.event_keys.specs.declared.outcome.Turned.{Turned}
use Rattle.virtual_time.specs.Reference.{reference_below}
use Rattle.task_seed.specs.Machines.{machine, end_rank}
use Rattle.task_seed.specs.Taken.{turned_of, turns_of}
use Rattle.task_seed.specs.Turning.{System}
use Rattle.reference.specs.declared.agenda.Due.{Due}
use Rattle.lone_group.specs.declared.batch.Batch.{Batch}
use Rattle.lone_group.specs.declared.batch.Slot.{Slot}
use Rattle.lone_group.specs.declared.drawn.Drawn.{Drawn}
use Rattle.lone_group.specs.declared.lone.Rest.{Rest}
use Rattle.lone_group.specs.declared.lone.Rest.TheVariants.{Budget, End, Undrawn, NoMemory as OutOfMemory}

-- a setup, the key of the turn that comes next, if one is left, what is drawn and not taken, how many turns were handed over, and those that were taken
-- and not handed over, in order
pub record Alone (P : Type 0) : Type 0 where
  pub setup : P
  pub next : Option Key
  pub due : List Due
  pub first : ℕ
  pub turns : List Turned

-- nothing was drawn, and no turn was taken
abbrev pub start_of : {P : Type 0} → P → Option Key → Alone P
start_of setup next = record { setup = setup; next = next; due = []; first = 0; turns = [] }

-- a setup, the lists of turns that are drawn and wait, and the batches that wait, each in the order in which they came
pub record Between (P : Type 0) : Type 0 where
  pub setup : P
  pub drawn : List Drawn
  pub batches : List Batch

-- the turn in a slot, and those in the first slots, so many
abbrev pub turned : Slot → Turned
turned slot = turned_of slot.found slot.key

abbrev pub turns_in : ℕ → List Slot → List Turned
turns_in used slots = map turned (take used slots)

-- after so many turns of the reference these are its next ones, in order, up to a bound
pub record IsPart (s : System) (first bound : ℕ) (turns : List Turned) : Type 0 where
  pub within : bound ≤ end_rank
  -- below a bound those before were
  pub old : ℕ
  pub before : first ≡ length (reference_below (machine s) old)
  -- and below this one these are too
  pub next : reference_below (machine s) bound ≡ turns_of turns ++ reference_below (machine s) old

-- the turns of a batch are the next ones of the reference, and are counted; where it is the last one they are the last ones
pub record IsBatch (s : System) (batch : Batch) : Type 0 where
  pub bound : ℕ
  pub part : IsPart s batch.first bound (turns_in batch.used batch.slots.items)
  pub room : batch.used ≤ length batch.slots.items
  pub count : batch.given ≡ batch.first + batch.used
  pub last : batch.is_last ≡ true → bound ≡ end_rank

-- what a group took and hadn't handed over waits as a batch, behind those that waited
pub record IsHanded {P : Type 0} (old new : Between P) (group : Alone P) : Type 0 where
  pub batch : Batch
  pub becomes : new ≡ record old { batches = old.batches ++ batch ∷ [] }
  pub first : batch.first ≡ group.first
  pub turns : turns_in batch.used batch.slots.items ≡ group.turns

-- so many more turns were taken, of those that were drawn
pub record IsAhead {P : Type 0} (old new : Alone P) (count : ℕ) : Type 0 where
  pub more : List Turned
  pub many : length more ≡ count
  pub becomes : new ≡ record old { next = new.next; due = drop count old.due; turns = old.turns ++ more }

module _ {P : Type 0} where
  -- why a group stopped that took so many turns of a budget: the budget is used up, no turn is left, all that was drawn is taken, or memory was refused
  -- for the next one
  abbrev pub HasStopped : (budget count : ℕ) → Rest → Alone P → Type 0
  HasStopped budget count Budget l = count ≡ budget
  HasStopped budget count End l = l.next ≡ None
  HasStopped budget count Undrawn l = (l.due ≡ []) × IsSome l.next
  HasStopped budget count OutOfMemory l = count < budget
