-- What a group of all components holds.
use Rattle.std.specs.Prelude.{◌≡◌, ℕ, ◌≤◌, Option, None, IsSome, List, length}
use Rattle.event_keys.specs.declared.key.Key.{Key}
use Rattle.task_seed.specs.Turning.{System}
use Rattle.reference.specs.declared.agenda.Due.{Due}
use Rattle.reference.specs.Queues.{rank_or_end}
use Rattle.lone_group.specs.declared.batch.Slot.{Slot}
use Rattle.lone_group.specs.declared.lone.Rest.{Rest}
use Rattle.lone_group.specs.declared.lone.Rest.TheVariants.{Budget, End, Undrawn, NoMemory}
use Rattle.lone_group.specs.Drawn.{AreNext, first_of}
use Rattle.lone_group.specs.Lone.{IsPart, turns_in}

-- what is drawn comes next, and then the turn with the key `until`; what stands in the first slots, so many, are the last turns before, and weren't
-- handed over
pub record IsHeld (s : System) (next : Option Key) (due : List Due) (until : Option Key) (first used : ℕ) (slots : List Slot) : Type 0 where
  pub starts : next ≡ first_of due until
  pub due_is : AreNext s due until
  pub part : IsPart s first (rank_or_end next) (turns_in used slots)
  pub room : used ≤ length slots

-- why no turn is at hand
abbrev pub IsRest : Rest → Option Key → Type 0
IsRest Budget next = ⊥
IsRest End next = next ≡ None
IsRest Undrawn next = IsSome next
IsRest NoMemory next = ⊥
