-- What a call of an exchange or of a lease is in the theory.
use Rattle.std.specs.Prelude.{◌≡◌, ℕ, ◌<◌, Option, List, [], ◌∷◌, length, map, slice_get}
use Rattle.terms.specs.Datum.{Datum}
use Rattle.terms.specs.Named.{Named}
use Rattle.virtual_time.specs.Machine.{Machine}
use Rattle.virtual_time.specs.Reference.{Turn as Taken}
use Rattle.virtual_time.specs.Worlds.{Commit, Step}
use Rattle.virtual_time.specs.Groups.Leases.{Lease, Matches}
use Rattle.virtual_time.specs.Groups.Meetings.{IsChunk, IsCommit, Met}
use Rattle.virtual_time.specs.Groups.Stubs.{Exchange, IsSound}
use Rattle.virtual_time.specs.Groups.Wholes.{put_lease}
use Rattle.task_seed.specs.declared.setup.Setup.{Setup}
use Rattle.task_seed.specs.declared.turns.Turn.{Turn}
use Rattle.task_seed.specs.Setups.{plan_of}
use Rattle.plans.specs.Plans.{composition}
use Rattle.event_keys.specs.Ranks.{rank_of_bound}
use Rattle.rollback.specs.ComponentView.{machine_of}
use Rattle.groups.specs.GroupView.{AreMembers, GroupView, lease_of}
use Rattle.group_exchange.specs.Chunks.{IsGiven}
use Rattle.group_exchange.specs.Core.{AreMeetings, Moves, SimulatesSteps, StaysKnown}
use Rattle.group_exchange.specs.LeaseView.{IsValidLease, KeepsMembers}
use Rattle.group_exchange.specs.ExchangeView.{ExchangeView, exchange_of, group_at, without_inbox}
use Rattle.group_exchange.specs.Windows.{HasFewWaiting, IsInWindow}

-- a lease of a group of these components is the one that an exchange knows, which has so many groups
pub record IsKnown {P : Type 0} (m : Machine (List Datum) Named) (group : ℕ → ℕ) (groups : ℕ) (e : Exchange Named) (lease : GroupView P) : Type 0 where
  pub there : lease.number < groups
  pub members : AreMembers group lease.number lease.components
  pub match : Matches m group lease.number (e.stub lease.number) (lease_of m lease)

-- from an exchange whose turns are read by turn_of
module _ {T : Type 0} (turn_of : T → ℕ → ℕ → Option Turn) (old : ExchangeView (Setup T)) where
  -- the machine of its setup
  abbrev pub theory : Machine (List Datum) Named
  theory = machine_of turn_of old.setup

  -- the group of each component
  abbrev pub group : ℕ → ℕ
  group = group_at old.groups

  -- the number of its components
  abbrev pub count : ℕ
  count = length (composition (plan_of old.setup))

  -- an exchange of the same setup, as the theory sees it
  abbrev pub seen : ExchangeView (Setup T) → Exchange Named
  seen e = exchange_of theory e

  -- a lease of the same setup, as the theory sees it
  abbrev pub held : GroupView (Setup T) → Lease (List Datum) Named
  held lease = lease_of theory lease

  -- steps of this kind lead the whole world to that of the new exchange and leases
  abbrev pub Simulates : (List (Step Named) → Type 0) → (ℕ → Lease (List Datum) Named) → ExchangeView (Setup T) → (ℕ → Lease (List Datum) Named) → Type 0
  Simulates kind leases new new_leases = SimulatesSteps theory group kind (seen old) leases (seen new) new_leases

  -- the lease is one of its groups', and matches what is kept of it
  abbrev pub Knows : GroupView (Setup T) → Type 0
  Knows lease = IsKnown theory group (length old.stubs) (seen old) lease

  -- the exchange and the lease have met, and have become these
  abbrev pub HaveMet : GroupView (Setup T) → ExchangeView (Setup T) → GroupView (Setup T) → Type 0
  HaveMet lease new new_lease = Met theory group lease.number (seen old) (held lease) (seen new) (held new_lease)

  -- the bound has moved as far as all clear it
  abbrev pub HasCommitted : ExchangeView (Setup T) → Type 0
  HasCommitted new = IsCommit theory (seen old) (seen new)

  -- it is sound, though every lease may be away
  abbrev pub IsSoundExchange : Type 0
  IsSoundExchange = IsSound theory group count (seen old)

  -- one commit of the whole world, wherever the leases are
  abbrev pub IsOneCommit : ExchangeView (Setup T) → Type 0
  IsOneCommit new = (leases : ℕ → Lease (List Datum) Named) → Simulates (λ steps. steps ≡ Commit (rank_of_bound new.bound) ∷ []) leases new leases

  -- nothing changes in the whole world, wherever the leases are
  abbrev pub LeavesTheWorld : ExchangeView (Setup T) → Type 0
  LeavesTheWorld new = (leases : ℕ → Lease (List Datum) Named) → Simulates (λ steps. steps ≡ []) leases new leases

  -- in the whole world messages meet their antimessages, and nothing else happens, wherever the other leases are
  abbrev pub OnlyMeets : GroupView (Setup T) → ExchangeView (Setup T) → GroupView (Setup T) → Type 0
  OnlyMeets lease new new_lease =
      (leases : ℕ → Lease (List Datum) Named)
      → leases lease.number ≡ held lease
      → Simulates AreMeetings leases new (put_lease lease.number (held new_lease) leases)

  -- where it has a window, so few messages and antimessages wait in all inboxes
  abbrev pub HasFewInInboxes : Type 0
  HasFewInInboxes = HasFewWaiting theory count old

  -- the turns, of which the first has this number, were held, and are the next ones of the reference
  abbrev pub HasGiven : ℕ → List (Taken Named) → ExchangeView (Setup T) → Type 0
  HasGiven first turns new = (b : ℕ) × IsChunk theory group count (seen old) b (seen new) turns × IsGiven theory first b turns

-- of what is kept of the groups but this one only their inboxes have changed
abbrev pub KeepsOthers : {P : Type 0} → ℕ → ExchangeView P → ExchangeView P → Type 0
KeepsOthers number old new = (g : ℕ) → (g ≡ number → ⊥) → slice_get (map without_inbox new.stubs) g ≡ slice_get (map without_inbox old.stubs) g

-- an exchange and the lease of a group have met, and have become these
pub record IsMeeting {T : Type 0} (turn_of : T → ℕ → ℕ → Option Turn) (old : ExchangeView (Setup T)) (lease : GroupView (Setup T)) (new : ExchangeView (Setup T)) (new_lease : GroupView (Setup T)) : Type 0 where
  -- in the theory, too, it is a meeting of the two
  pub met : HaveMet turn_of old lease new new_lease
  -- in the whole world messages meet their antimessages, and nothing else happens, wherever the other leases are
  pub core : OnlyMeets turn_of old lease new new_lease
  -- the exchange knows the lease afterwards
  pub known : Knows turn_of new new_lease
  -- of what is kept of the other groups only their inboxes have changed
  pub others : KeepsOthers lease.number old new
  -- there are as many groups as before
  pub there : length new.stubs ≡ length old.stubs
  -- of the exchange only the stubs have changed, and the turns taken in and not given
  pub rest : new ≡ record old { stubs = new.stubs; held = new.held }
  -- the lease is of the same group, with the same components
  pub same : KeepsMembers lease new_lease
  -- the lease has the window of the exchange, or none where that has none
  pub window : new_lease.window ≡ old.window

-- from a lease
module _ {T : Type 0} (turn_of : T → ℕ → ℕ → Option Turn) (old : GroupView (Setup T)) where
  -- whatever the exchange, the other leases and the groups of other components are: its components do steps of their own
  abbrev pub MovesAlone : GroupView (Setup T) → Type 0
  MovesAlone new =
      (group : ℕ → ℕ) → AreMembers group old.number old.components
      → Moves (machine_of turn_of old.setup) group old.number (lease_of (machine_of turn_of old.setup) old) (lease_of (machine_of turn_of old.setup) new)

  -- and who knew the one knows the other
  abbrev pub StaysTheSame : GroupView (Setup T) → Type 0
  StaysTheSame new =
      (group : ℕ → ℕ) → AreMembers group old.number old.components
      → StaysKnown (machine_of turn_of old.setup) group old.number (lease_of (machine_of turn_of old.setup) old) (lease_of (machine_of turn_of old.setup) new)

  -- it is sound, wherever the exchange and the other leases are
  abbrev pub IsSoundLease : Type 0
  IsSoundLease = IsValidLease (machine_of turn_of old.setup) (length (composition (plan_of old.setup))) old

-- where a lease has a window, so little is done and pending of its components
abbrev pub StaysInWindow : {T : Type 0} → GroupView (Setup T) → Type 0
StaysInWindow lease = IsInWindow (length (composition (plan_of lease.setup))) lease
