-- What a thread has for itself.
use Rattle.std.specs.Prelude.{◌≡◌, ℕ, Option, Some, List, length, slice_get, map}
use Rattle.plans.specs.Plans.{composition}
use Rattle.task_seed.specs.declared.setup.Setup.{Setup}
use Rattle.task_seed.specs.declared.turns.Turn.{Turn}
use Rattle.task_seed.specs.Setups.{plan_of}
use Rattle.rollback.specs.ComponentView.{machine_of}
use Rattle.virtual_time.specs.Groups.Leases.{Matches}
use Rattle.groups.specs.GroupView.{AreMembers, GroupView, lease_of}
use Rattle.group_exchange.specs.declared.stub.Stub.{Stub}
use Rattle.group_exchange.specs.ExchangeView.{ExchangeView, group_at, stub_of, without_inbox}
use Rattle.gvt.specs.Seats.{IsSeatOf}
use Rattle.gvt.specs.declared.word.Published.{Published}
use Rattle.boards.specs.declared.parts.Board.{Board}
use Rattle.boards.specs.declared.parts.Made.{Made}
use Rattle.boards.specs.declared.parts.Pass.{Pass}
use Rattle.boards.specs.Passes.{IsAtRest, IsReader, Owns, sight, IsOf as IsOfBoard}
use Rattle.boards.specs.Sections.{seeing}
use Rattle.workers.specs.declared.crew.Caller.{Caller}
use Rattle.workers.specs.declared.crew.Division.{Division}
use Rattle.workers.specs.declared.crew.Lent.{Lent}
use Rattle.workers.specs.declared.crew.Worker.{Worker}
use Rattle.workers.specs.declared.shared.Shared.{Shared}

-- setup, groups and window stay
abbrev pub StaysDivided : {P : Type 0} → ExchangeView P → ExchangeView P → Type 0
StaysDivided old new = (new.setup ≡ old.setup) × (new.groups ≡ old.groups) × (new.window ≡ old.window)

module _ {T : Type 0} where
  abbrev pub exchange_in : Lent T → ExchangeView (Setup T)
  exchange_in lent = lent.desk.value.exchange

  -- what never changes of an exchange
  abbrev pub division : ExchangeView (Setup T) → Division T
  division e = record { setup = e.setup; groups = e.groups; window = e.window }

  -- what is kept of each group, but for its inbox
  abbrev pub parts_of : Lent T → List Stub
  parts_of lent = map without_inbox (exchange_in lent).stubs

  -- the exchange is out with the pass, which had this sight before
  pub record HasTaken (board : Board (Lent T) (Division T) Stub) (old : Pass (Lent T) (Division T) Stub) (lent : Lent T) (new : Pass (Lent T) (Division T) Stub) : Type 0 where
    pub pass : IsOfBoard board new
    pub sees : sight new ≡ seeing (sight old).is_new (sight old).kind (sight old).own (Some (parts_of lent))
    pub kind : (sight old).kind ≡ Some (division (exchange_in lent))
    pub own : (n : ℕ) (part : Stub) → Owns old n part → slice_get (parts_of lent) n ≡ Some part

module _ {T : Type 0} (turn_of : T → ℕ → ℕ → Option Turn) where
  -- a lease is the one of which this is kept, in this division
  pub record IsKept (d : Division T) (part : Stub) (lease : GroupView (Setup T)) : Type 0 where
    pub setup : lease.setup ≡ d.setup
    pub window : lease.window ≡ d.window
    pub members : AreMembers (group_at d.groups) lease.number lease.components
    pub match : Matches (machine_of turn_of d.setup) (group_at d.groups) lease.number (stub_of (machine_of turn_of d.setup) part) (lease_of (machine_of turn_of d.setup) lease)

  -- the pass has the section of the lease's group, and left there what is kept of the lease
  pub record IsHeld (board : Board (Lent T) (Division T) Stub) (pass : Pass (Lent T) (Division T) Stub) (lease : GroupView (Setup T)) : Type 0 where
    pub division : Division T
    pub rest : IsAtRest board division pass
    pub part : Stub
    pub own : Owns pass lease.number part
    pub kept : IsKept division part lease

  -- each pass goes with the lease of its place
  abbrev pub AreHeld : Board (Lent T) (Division T) Stub → List (Pass (Lent T) (Division T) Stub) → List (GroupView (Setup T)) → Type 0
  AreHeld board passes leases =
      (n : ℕ) (pass : Pass (Lent T) (Division T) Stub) (lease : GroupView (Setup T)) → slice_get passes n ≡ Some pass → slice_get leases n ≡ Some lease → IsHeld board pass lease

  -- the worker's pass and seat are of these, and its lease is the one that is kept of its group
  abbrev pub IsOfAll : Board (Lent T) (Division T) Stub → Published → Worker T → Type 0
  IsOfAll board published worker = IsHeld board worker.pass worker.lease × IsSeatOf published worker.seat

  -- the worker is of these threads
  abbrev pub IsOf : Shared T → Worker T → Type 0
  IsOf shared worker = IsOfAll shared.board shared.published worker

  -- the exchange of a setup at its start, with the lease of each group in its pass's place
  pub record IsStart (setup : Setup T) (made : Made (Lent T) (Division T) Stub) (leases : List (GroupView (Setup T))) : Type 0 where
    pub held : AreHeld made.board made.passes.items leases
    pub division : Division T
    pub setup_is : division.setup ≡ setup
    pub reader : IsReader made.board division made.reader

module _ {T : Type 0} where
  -- the calling thread is of these threads, and the exchange of this setup; chunks come for each of its components
  pub record IsCallerOf (shared : Shared T) (setup : Setup T) (caller : Caller T) : Type 0 where
    pub division : Division T
    pub setup_is : division.setup ≡ setup
    pub rest : IsAtRest shared.board division caller.pass
    pub seat : IsSeatOf shared.published caller.seat
    pub many : length caller.parcel ≡ length (composition (plan_of setup))
