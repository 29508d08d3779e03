-- What a call of an exchange or of a lease is in the theory.
use Rattle.std.specs.Prelude.{◌≡◌, ℕ, ◌&&◌, Bool, Option, List, [], ◌∷◌, length}
use Rattle.terms.specs.Datum.{Datum}
use Rattle.terms.specs.Named.{Named}
use Rattle.virtual_time.specs.Machine.{Machine}
use Rattle.virtual_time.specs.Reference.{Turn as Taken}
use Rattle.virtual_time.specs.Worlds.{Commit, Step}
use Rattle.virtual_time.specs.Exchange.Leases.{IsFloor, Lease, Matches}
use Rattle.virtual_time.specs.Exchange.Meetings.{IsChunk, IsCommit, Met}
use Rattle.virtual_time.specs.Exchange.Stubs.{Exchange, IsSound}
use Rattle.virtual_time.specs.Exchange.Wholes.{put_lease}
use Rattle.task_seed.specs.declared.setup.Setup.{Setup}
use Rattle.task_seed.specs.declared.turns.Turn.{Turn}
use Rattle.task_seed.specs.Setups.{plan_of}
use Rattle.plans.specs.Plans.{composition}
use Rattle.event_keys.specs.declared.key.Bound.{Bound}
use Rattle.event_keys.specs.declared.message.Signed.{Signed}
use Rattle.event_keys.specs.Ranks.{rank_of_bound}
use Rattle.rollback.specs.ComponentView.{ComponentView, machine_of}
use Rattle.exchange.specs.Chunks.{IsGiven}
use Rattle.exchange.specs.Core.{AreMeetings, Moves, SimulatesSteps}
use Rattle.exchange.specs.LeaseView.{LeaseView, IsDelivered, IsValidLease, lease_of, part_of}
use Rattle.exchange.specs.ExchangeView.{ExchangeView, exchange_of}
use Rattle.exchange.specs.Windows.{HasFewWaiting, IsInWindow, same_window}

-- from an exchange whose turns are read by turn_of
module _ {T : Type 0} (turn_of : T → ℕ → ℕ → Option Turn) (old : ExchangeView (Setup T)) where
  -- the machine of its setup
  abbrev pub theory : Machine (List Datum) Named
  theory = machine_of turn_of old.setup

  -- an exchange of the same setup, as the theory sees it
  abbrev pub seen : ExchangeView (Setup T) → Exchange Named
  seen e = exchange_of theory e

  -- steps of this kind lead the whole world to that of the new exchange and leases
  abbrev pub Simulates : (List (Step Named) → Type 0) → (ℕ → Lease (List Datum) Named) → ExchangeView (Setup T) → (ℕ → Lease (List Datum) Named) → Type 0
  Simulates kind leases new new_leases = SimulatesSteps theory kind (seen old) leases (seen new) new_leases

  -- the lease matches what is kept of it
  abbrev pub Knows : LeaseView (Setup T) → Type 0
  Knows lease = Matches theory lease.component.number ((seen old).stub lease.component.number) (lease_of lease)

  -- the exchange and the lease have met, and have become these
  abbrev pub HaveMet : LeaseView (Setup T) → ExchangeView (Setup T) → LeaseView (Setup T) → Type 0
  HaveMet lease new new_lease = Met theory lease.component.number (seen old) (lease_of lease) (seen new) (lease_of new_lease)

  -- the bound has moved as far as all clear it
  abbrev pub HasCommitted : ExchangeView (Setup T) → Type 0
  HasCommitted new = IsCommit theory (seen old) (seen new)

  -- the number of its components
  abbrev pub count : ℕ
  count = length (composition (plan_of old.setup))

  -- it is sound, though every lease may be away
  abbrev pub IsSoundExchange : Type 0
  IsSoundExchange = IsSound theory count (seen old)

  -- one commit of the whole world, wherever the leases are
  abbrev pub IsOneCommit : ExchangeView (Setup T) → Type 0
  IsOneCommit new = (leases : ℕ → Lease (List Datum) Named) → Simulates (λ steps. steps ≡ Commit (rank_of_bound new.bound) ∷ []) leases new leases

  -- nothing changes in the whole world, wherever the leases are
  abbrev pub LeavesTheWorld : ExchangeView (Setup T) → Type 0
  LeavesTheWorld new = (leases : ℕ → Lease (List Datum) Named) → Simulates (λ steps. steps ≡ []) leases new leases

  -- in the whole world messages meet their antimessages, and nothing else happens, wherever the other leases are
  abbrev pub OnlyMeets : LeaseView (Setup T) → ExchangeView (Setup T) → LeaseView (Setup T) → Type 0
  OnlyMeets lease new new_lease =
      (leases : ℕ → Lease (List Datum) Named)
      → leases lease.component.number ≡ lease_of lease
      → Simulates AreMeetings leases new (put_lease lease.component.number (lease_of new_lease) leases)

  -- where it has a window, so few messages and antimessages wait in all inboxes
  abbrev pub HasFewInInboxes : Type 0
  HasFewInInboxes = HasFewWaiting theory count old

  -- the turns, of which the first has this number, were held, and are the next ones of the reference
  abbrev pub HasGiven : ℕ → List (Taken Named) → ExchangeView (Setup T) → Type 0
  HasGiven first turns new = (b : ℕ) × IsChunk theory count (seen old) b (seen new) turns × IsGiven theory first b turns

-- from a lease
module _ {T : Type 0} (turn_of : T → ℕ → ℕ → Option Turn) (old : LeaseView (Setup T)) where
  -- whatever the exchange and the other leases are, its component does these steps
  abbrev pub MovesBy : List (Step Named) → LeaseView (Setup T) → Type 0
  MovesBy steps new = Moves (machine_of turn_of old.component.setup) old.component.number steps (lease_of old) (lease_of new)

  -- it is sound, wherever the exchange and the other leases are
  abbrev pub IsSoundLease : Type 0
  IsSoundLease = IsValidLease (machine_of turn_of old.component.setup) (length (composition (plan_of old.component.setup))) old

  -- the least message of its tray came to its component
  abbrev pub HasDelivered : LeaseView (Setup T) → Type 0
  HasDelivered new = (signed : Signed) × IsDelivered (machine_of turn_of old.component.setup) old new signed

-- the least of a component's next key and of the keys in its tray
abbrev pub IsFloorOf : {T : Type 0} → (T → ℕ → ℕ → Option Turn) → ComponentView (Setup T) → List Signed → Bound → Type 0
IsFloorOf turn_of c tray floor = IsFloor (machine_of turn_of c.setup) c.number (rank_of_bound floor) (part_of c.number c.history tray)

-- where a lease has a window, so little is done and pending of its component
abbrev pub StaysInWindow : {T : Type 0} → LeaseView (Setup T) → Type 0
StaysInWindow lease = IsInWindow (length (composition (plan_of lease.component.setup))) lease

-- the lease's setup and window are the exchange's
abbrev pub is_own : {P : Type 0} → (P → P → Bool) → ExchangeView P → LeaseView P → Bool
is_own eq e lease = eq e.setup lease.component.setup && same_window e.window lease.window
