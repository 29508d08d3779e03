-- What a group does, as steps of its components in the theory.
use Rattle.std.specs.Prelude.{◌≡◌, ℕ, zero, suc, ◌<◌, true, false, Option, Some, List, [], ◌∷◌}
use Rattle.terms.specs.Datum.{Datum}
use Rattle.terms.specs.Named.{Named}
use Rattle.virtual_time.specs.Machine.{Machine}
use Rattle.virtual_time.specs.Bags.{AllFrom}
use Rattle.virtual_time.specs.Entries.{Entry, Item, entry_key}
use Rattle.virtual_time.specs.Records.{next_of}
use Rattle.virtual_time.specs.Worlds.{Commit, DeliverAntimessage, DeliverMessage, Meet, Process, RollBack, Step, World, deliver_antimessage, deliver_message, process}
use Rattle.virtual_time.specs.Groups.Leases.{Does, alone}
use Rattle.task_seed.specs.declared.setup.Setup.{Setup}
use Rattle.task_seed.specs.declared.turns.Turn.{Turn}
use Rattle.rollback.specs.ComponentView.{machine_of}
use Rattle.groups.specs.declared.running.Stop.{Stop}
use Rattle.groups.specs.declared.running.Stop.TheVariants.{Budget, End, NoMemory, NoRoom}
use Rattle.groups.specs.GroupView.{AreMembers, GroupView, frames, history_of, is_member, lease_of, least_next}
use Rattle.groups.specs.declared.window.Window.{Window}
use Rattle.groups.specs.Windows.{IsFirstWith, lets_through}

-- no message or antimessage in flight to the group's components has a lesser key
abbrev pub IsLeastIn : {S A : Type 0} → (ℕ → ℕ) → ℕ → World S A → Item A → Type 0
IsLeastIn group g u x = (j : ℕ) → group j ≡ g → AllFrom x.key (u.part j).plus × AllFrom x.key (u.part j).minus

-- of what is in flight to the group's components each delivery takes the least
abbrev pub AreLeastFirst : {S A : Type 0} → Machine S A → (ℕ → ℕ) → ℕ → World S A → List (Step A) → Type 0
AreLeastFirst m group g u [] = Unit {0}
AreLeastFirst m group g u (DeliverMessage i x ∷ ss) = IsLeastIn group g u x × AreLeastFirst m group g (deliver_message m i x u) ss
AreLeastFirst m group g u (DeliverAntimessage i x ∷ ss) = IsLeastIn group g u x × AreLeastFirst m group g (deliver_antimessage m i x u) ss
AreLeastFirst m group g u (Meet i x ∷ ss) = ⊥
AreLeastFirst m group g u (Process i ∷ ss) = ⊥
AreLeastFirst m group g u (RollBack i ∷ ss) = ⊥
AreLeastFirst m group g u (Commit b ∷ ss) = ⊥

module _ {S A : Type 0} (m : Machine S A) (group : ℕ → ℕ) (g : ℕ) where
  -- some steps of the group's components lead from u to v
  pub record Leads (u v : World S A) : Type 0 where
    pub steps : List (Step A)
    pub does : Does m group g u steps v

  -- so do some deliveries to them, the least first
  pub record Delivers (u v : World S A) : Type 0 where
    pub steps : List (Step A)
    pub deliveries : AreLeastFirst m group g u steps
    pub does : Does m group g u steps v

  -- component i of them processes an entry, and then some deliveries to them lead on, the least first
  pub record Processes (i : ℕ) (u v : World S A) : Type 0 where
    pub steps : List (Step A)
    pub deliveries : AreLeastFirst m group g (process m i u) steps
    pub does : Does m group g u (Process i ∷ steps) v

-- of a group whose turns are read by turn_of
module _ {T : Type 0} (turn_of : T → ℕ → ℕ → Option Turn) where
  -- the machine of its setup
  abbrev pub theory : GroupView (Setup T) → Machine (List Datum) Named
  theory old = machine_of turn_of old.setup

  -- whatever the groups of the other components, the one is this of the other
  abbrev pub IsAlone : ((ℕ → ℕ) → World (List Datum) Named → World (List Datum) Named → Type 0) → GroupView (Setup T) → GroupView (Setup T) → Type 0
  IsAlone relation old new =
      (group : ℕ → ℕ) → AreMembers group old.number old.components
      → relation group (alone (theory old) group old.number (lease_of (theory old) old)) (alone (theory old) group old.number (lease_of (theory old) new))

  -- steps of the group's own lead from the one to the other
  abbrev pub MovesBy : GroupView (Setup T) → GroupView (Setup T) → Type 0
  MovesBy old new = IsAlone (λ group. Leads (theory old) group old.number) old new

  -- only the records of its components, its tray and what leaves it changed
  pub record KeepsGroup (old new : GroupView (Setup T)) : Type 0 where
    pub rest : new ≡ record old { components = new.components; tray = new.tray; out = new.out }
    pub same : frames new.components ≡ frames old.components

  -- all that is in flight to its components was delivered, and what followed of it
  pub record IsSettled (old new : GroupView (Setup T)) : Type 0 where
    pub keeps : KeepsGroup old new
    pub tray : new.tray ≡ []
    pub moves : IsAlone (λ group. Delivers (theory old) group old.number) old new

  -- its component i, which has the least next key, processed that entry, and all that was then in flight within the group was delivered
  pub record IsStepped (old new : GroupView (Setup T)) : Type 0 where
    pub i : ℕ
    pub entry : Entry Named
    pub member : is_member old.components i ≡ true
    pub next : next_of (theory old) i (history_of (theory old) old.components i) ≡ Some entry
    pub least : entry_key entry ≡ least_next turn_of old.setup old.components
    pub keeps : KeepsGroup old new
    pub tray : new.tray ≡ []
    pub moves : IsAlone (λ group. Processes (theory old) group old.number i) old new

  -- the window had room for the entry that was processed
  abbrev pub HadRoom : Option Window → (old new : GroupView (Setup T)) → IsStepped old new → Type 0
  HadRoom window old new step = lets_through window (history_of (theory old) old.components step.i).done (Some step.entry) ≡ true

  abbrev pub IsSteppedWithin : Option Window → GroupView (Setup T) → GroupView (Setup T) → Type 0
  IsSteppedWithin window old new = (step : IsStepped old new) × HadRoom window old new step

  -- so many entries were processed, one after the other, and for each the group's window had room
  abbrev pub IsAhead : GroupView (Setup T) → GroupView (Setup T) → ℕ → Type 0
  IsAhead old new zero = new ≡ old
  IsAhead old new (suc count) = (mid : GroupView (Setup T)) × IsAhead old mid count × (step : IsStepped mid new) × HadRoom mid.window mid new step

  -- the least key that its components have to do, or the end
  abbrev pub next_rank : GroupView (Setup T) → ℕ
  next_rank g = least_next turn_of g.setup g.components

  -- why a group stopped that ran ahead by so many entries of a budget, and is now this: the budget is used up, nothing is next, something
  -- is next for which its window has room and memory was refused, or its window has no room for what is next
  abbrev pub HasStopped : (budget count : ℕ) → Stop → GroupView (Setup T) → Type 0
  HasStopped budget count Budget g = count ≡ budget
  HasStopped budget count End g = next_rank g ≡ (theory g).top
  HasStopped budget count NoMemory g = (count < budget) × (next_rank g ≡ (theory g).top → ⊥) × IsFirstWith turn_of g.window true g.components
  HasStopped budget count NoRoom g = (count < budget) × IsFirstWith turn_of g.window false g.components
