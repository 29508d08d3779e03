-- What a lease holds, and the lease of the theory that it is.
use Rattle.std.specs.Prelude.{◌≡◌, ℕ, ◌<◌, ◌≤◌, ◌+◌, ◌-◌, ◌^◌, min, Bool, true, false, Option, None, Some, List, [], ◌∷◌, length}
use Rattle.terms.specs.Datum.{Datum}
use Rattle.terms.specs.Named.{Named}
use Rattle.event_keys.specs.declared.key.Bound.{Bound}
use Rattle.event_keys.specs.declared.message.Sign.{Sign}
use Rattle.event_keys.specs.declared.message.Sign.TheVariants.{Plus, Minus}
use Rattle.event_keys.specs.declared.message.Signed.{Signed}
use Rattle.event_keys.specs.Ranks.{rank_of_bound}
use Rattle.antimessage.specs.Counts.{Each}
use Rattle.virtual_time.specs.Entries.{Entry}
use Rattle.virtual_time.specs.Machine.{Machine}
use Rattle.virtual_time.specs.Exchange.Stubs.{Stub}
use Rattle.virtual_time.specs.Exchange.Leases.{Lease, IsLease, Matches}
use Rattle.virtual_time.specs.Records.{Record, unsent}
use Rattle.virtual_time.specs.Worlds.{Part}
use Rattle.rollback.specs.declared.copied.Copies.{Copies}
use Rattle.rollback.specs.Flight.{in_flight, item_of}
use Rattle.rollback.specs.ComponentView.{ComponentView, comes, back_by}
use Rattle.rollback.specs.Post.{IsPosted}
use Rattle.rollback.specs.Room.{has_room}
use Rattle.rollback.specs.Runs.{IsRun}
use Rattle.rollback.specs.Stepped.{next_entry}
use Rattle.task_seed.specs.declared.setup.Setup.{Setup}
use Rattle.task_seed.specs.declared.turns.Turn.{Turn}
use Rattle.exchange.specs.declared.lease.Stop.{Stop}
use Rattle.exchange.specs.declared.lease.Stop.TheVariants.{Budget, End, NoMemory, NoRoom}
use Rattle.exchange.specs.declared.window.Window.{Window}

-- a component, its tray of messages that came and are not delivered yet, its outgoing messages with their copies, the floor of its
-- last meeting, and its window, if it has one
pub record LeaseView (P : Type 0) : Type 0 where
  pub component : ComponentView P
  pub tray : List Signed
  pub out : List Signed
  pub copies : Copies
  pub floor : Bound
  pub window : Option Window

-- the record of component i, with its tray as what is in flight to it
abbrev pub part_of : ℕ → Record (List Datum) Named → List Signed → Part (List Datum) Named
part_of i r tray = record { base = r.base; first = r.first; done = r.done; pending = r.pending; owed = r.owed; plus = in_flight Plus i tray; minus = in_flight Minus i tray }

module _ {P : Type 0} where
  -- as the theory sees it
  abbrev pub lease_of : LeaseView P → Lease (List Datum) Named
  lease_of h =
      record {
        base = rank_of_bound h.component.base;
        floor = rank_of_bound h.floor;
        part = part_of h.component.number h.component.history h.tray;
        out_plus = λ j. in_flight Plus j h.out;
        out_minus = λ j. in_flight Minus j h.out;
      }

  -- it has what each lease of the theory has, and matches some stub; there are so many components
  pub record IsValidLease (m : Machine (List Datum) Named) (count : ℕ) (h : LeaseView P) : Type 0 where
    pub lease : IsLease m h.component.number (lease_of h)
    pub stub : Stub Named
    pub match : Matches m h.component.number stub (lease_of h)
    -- what is in its tray came to it
    pub arrived : Each (λ s. s.message.to ≡ h.component.number) h.tray
    -- each outgoing message has its two copies, and goes to a component that exists
    pub of_sender : (j : ℕ) → in_flight Plus j h.copies.of_sender ≡ in_flight Plus j h.out
    pub of_receiver : (j : ℕ) → in_flight Plus j h.copies.of_receiver ≡ in_flight Plus j h.out
    pub inside : (sign : Sign) (j : ℕ) → count ≤ j → in_flight sign j h.out ≡ []

  -- only its record, its outgoing messages and their copies changed
  abbrev pub IsOnlyAhead : LeaseView P → LeaseView P → Type 0
  IsOnlyAhead old new = new ≡ record old { component = record old.component { history = new.component.history }; out = new.out; copies = new.copies }

  -- its component is of the same setup and number, and its window the same
  abbrev pub KeepsComponent : LeaseView P → LeaseView P → Type 0
  KeepsComponent old new =
      (new.component.setup ≡ old.component.setup)
      × (new.component.number ≡ old.component.number)
      × (new.window ≡ old.window)

  -- so many entries are processed, and what they send is among the outgoing messages
  pub record IsAhead (m : Machine (List Datum) Named) (old new : LeaseView P) (count : ℕ) : Type 0 where
    pub run : IsRun m old.component.number old.component.history new.component.history old.out new.out count
    pub rest : IsOnlyAhead old new

  -- the least signed message of the tray comes to the component; an antimessage of each message that is taken back goes out
  pub record IsDelivered (m : Machine (List Datum) Named) (old new : LeaseView P) (s : Signed) : Type 0 where
    pub tray : old.tray ≡ s ∷ new.tray
    pub history : new.component.history ≡ comes m s.sign (item_of s) old.component.history
    pub sent : IsPosted Minus (unsent m old.component.number (back_by m s.sign (item_of s) old.component.history)) old.out new.out
    pub rest : new ≡ record old { component = record old.component { history = new.component.history }; tray = new.tray; out = new.out }

  -- these come, one after the other
  abbrev pub AllDelivered : Machine (List Datum) Named → LeaseView P → List Signed → LeaseView P → Type 0
  AllDelivered m old [] new = new ≡ old
  AllDelivered m old (s ∷ ss) new = (mid : LeaseView P) × IsDelivered m old mid s × AllDelivered m mid ss new

-- so many left a list of which these are left, up to the greatest u64
pub record IsCount {A : Type 0} (old new : List A) (answer : ℕ) : Type 0 where
  pub many : ℕ
  pub left : length old ≡ many + length new
  pub is : answer ≡ min many (2 ^ 64 - 1)

-- a window has room for what is next behind these entries; where there is no window there always is room
abbrev pub lets_through : Option Window → List (Entry Named) → Option (Entry Named) → Bool
lets_through None done next = true
lets_through (Some window) done next = has_room window.turns done next

-- so has the window of a lease for its next entry
abbrev pub may_go_on : {T : Type 0} → (T → ℕ → ℕ → Option Turn) → LeaseView (Setup T) → Bool
may_go_on turn_of h = lets_through h.window h.component.history.done (next_entry turn_of h.component)

-- why a lease stopped that ran ahead by so many entries of a budget, and is now this: the budget is used up, nothing is next, something
-- is next for which its window has room and memory was refused, or its window has no room for what is next
abbrev pub HasStopped : {T : Type 0} → (T → ℕ → ℕ → Option Turn) → (budget count : ℕ) → Stop → LeaseView (Setup T) → Type 0
HasStopped turn_of budget count Budget h = count ≡ budget
HasStopped turn_of budget count End h = next_entry turn_of h.component ≡ None
HasStopped turn_of budget count NoMemory h = (count < budget) × (next_entry turn_of h.component ≡ None → ⊥) × (may_go_on turn_of h ≡ true)
HasStopped turn_of budget count NoRoom h = (count < budget) × (may_go_on turn_of h ≡ false)
