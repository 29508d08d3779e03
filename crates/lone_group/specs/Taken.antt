-- A turn that was taken into a slot.
use Rattle.std.specs.Prelude.{◌≡◌, ℕ, ◌+◌, ◌++◌, ◌≤◌, Option, List, [], ◌∷◌, length}
use Rattle.terms.specs.Datum.{Datum}
use Rattle.terms.specs.Named.{Named}
use Rattle.event_keys.specs.declared.key.Key.{Key}
use Rattle.virtual_time.specs.Machine.{Machine}
use Rattle.task_seed.specs.Taken.{turned_of}
use Rattle.reference.specs.Agendas.{HasCome}
use Rattle.lone_group.specs.declared.batch.Slot.{Slot}
use Rattle.lone_group.specs.Lone.{turns_in}

-- the turn of this key came with some outcome, and stands behind the turns in the first slots, so many
pub record IsIn (m : Machine (List Datum) Named) (key : Key) (next : Option Key) (used : ℕ) (olds news : List Slot) : Type 0 where
  pub outcome : Option Named
  pub comes : HasCome m key outcome next
  pub turns : turns_in (used + 1) news ≡ turns_in used olds ++ turned_of outcome key ∷ []
  pub room : used + 1 ≤ length news
