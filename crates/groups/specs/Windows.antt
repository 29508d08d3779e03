-- The window of a group: how many own turns each of its components may have done, and whether there is room for what is next.
use Rattle.std.specs.Prelude.{◌≡◌, ℕ, ◌<◌, ◌≤◌, ◌^◌, ◌⊎◌, Bool, true, false, Option, None, Some, IfSome, List, slice_get}
use Rattle.terms.specs.Datum.{Datum}
use Rattle.terms.specs.Named.{Named}
use Rattle.virtual_time.specs.Entries.{Entry}
use Rattle.virtual_time.specs.Exchange.Windows.{own_turns}
use Rattle.virtual_time.specs.Records.{Record}
use Rattle.task_seed.specs.declared.setup.Setup.{Setup}
use Rattle.task_seed.specs.declared.turns.Turn.{Turn}
use Rattle.rollback.specs.declared.refused.ProcessRefused.{ProcessRefused}
use Rattle.rollback.specs.declared.refused.ProcessRefused.TheVariants as refused
use Rattle.rollback.specs.ComponentView.{ComponentView}
use Rattle.rollback.specs.Room.{has_room}
use Rattle.rollback.specs.Stepped.{next_entry}
use Rattle.groups.specs.declared.running.Stop.{Stop}
use Rattle.groups.specs.declared.running.Stop.TheVariants.{Budget, End, NoMemory, NoRoom}
use Rattle.groups.specs.declared.window.Window.{Window}
use Rattle.groups.specs.GroupView.{GroupView, key_of_next}

-- a window has room for what is next behind these entries; where there is no window there always is room
abbrev pub lets_through : Option Window → List (Entry Named) → Option (Entry Named) → Bool
lets_through None done next = true
lets_through (Some window) done next = has_room window.turns done next

module _ {P : Type 0} where
  -- the record of each component is such
  abbrev pub OfEachRecord : (Record (List Datum) Named → Type 0) → List (ComponentView P) → Type 0
  OfEachRecord Holds cs = (q : ℕ) (c : ComponentView P) → slice_get cs q ≡ Some c → Holds c.history

  -- each component has at most so many own turns done
  abbrev pub HaveDone : ℕ → List (ComponentView P) → Type 0
  HaveDone most cs = OfEachRecord (λ r. own_turns r.done ≤ most) cs

  -- where there is a window, whoever is in it before is so afterwards
  abbrev pub KeepRoom : Option Window → List (ComponentView P) → List (ComponentView P) → Type 0
  KeepRoom window old new = IfSome window (λ w. HaveDone w.turns old → HaveDone w.turns new)

  -- where a group has a window, its components are in it
  abbrev pub IsInWindow : GroupView P → Type 0
  IsInWindow g = IfSome g.window (λ window. HaveDone window.turns g.components)

  -- the window is the same, and the group stays in it
  pub record KeepsWindow (old new : GroupView P) : Type 0 where
    pub same : new.window ≡ old.window
    pub keeps : IsInWindow old → IsInWindow new

module _ {T : Type 0} (turn_of : T → ℕ → ℕ → Option Turn) where
  -- the component at a place has something to do, and none has anything to do before it
  pub record IsFirst (cs : List (ComponentView (Setup T))) (place : ℕ) : Type 0 where
    pub c : ComponentView (Setup T)
    pub there : slice_get cs place ≡ Some c
    pub key : key_of_next turn_of c < 2 ^ 144
    pub least : (q : ℕ) (d : ComponentView (Setup T)) → slice_get cs q ≡ Some d → key_of_next turn_of c ≤ key_of_next turn_of d

  -- for the next entry of a component that is first the window has room, or it has none
  pub record IsFirstWith (window : Option Window) (room : Bool) (cs : List (ComponentView (Setup T))) : Type 0 where
    pub place : ℕ
    pub first : IsFirst cs place
    pub answer : lets_through window first.c.history.done (next_entry turn_of first.c) ≡ room

  -- no component has anything to do
  abbrev pub NothingIsNext : List (ComponentView (Setup T)) → Type 0
  NothingIsNext cs = (q : ℕ) (d : ComponentView (Setup T)) → slice_get cs q ≡ Some d → 2 ^ 144 ≤ key_of_next turn_of d

  -- whether the window has room for what is next; where nothing is, it has
  abbrev pub MayGoOn : Option Window → Bool → List (ComponentView (Setup T)) → Type 0
  MayGoOn window true cs = NothingIsNext cs ⊎ IsFirstWith window true cs
  MayGoOn window false cs = IsFirstWith window false cs

  -- why none did an entry
  abbrev pub IsHalted : Option Window → Stop → List (ComponentView (Setup T)) → Type 0
  IsHalted window Budget cs = ⊥
  IsHalted window End cs = NothingIsNext cs
  IsHalted window NoMemory cs = IsFirstWith window true cs
  IsHalted window NoRoom cs = IsFirstWith window false cs

-- what a caller without a window is told of it
abbrev pub refusal_of : Stop → ProcessRefused
refusal_of Budget = refused.NoMemory
refusal_of End = refused.NothingPending
refusal_of NoMemory = refused.NoMemory
refusal_of NoRoom = refused.NoMemory
