-- What workers share, and the leases, at the start.
use Rattle.std.specs.Prelude.{ℕ, Option, None, Some, List, [], map, length, replicate, slice_get}
use Rattle.std.specs.List.{range_with_len}
use Rattle.terms.specs.Datum.{Datum}
use Rattle.terms.specs.Named.{Named}
use Rattle.virtual_time.specs.Machine.{Machine}
use Rattle.virtual_time.specs.Worlds.{start_world}
use Rattle.virtual_time.specs.Exchange.Leases.{Lease, start_lease}
use Rattle.event_keys.specs.declared.key.Key.{Key}
use Rattle.event_keys.specs.declared.key.Bound.{Bound}
use Rattle.event_keys.specs.declared.key.Bound.TheVariants.{At, End}
use Rattle.plans.specs.Plans.{composition}
use Rattle.task_seed.specs.declared.setup.Setup.{Setup}
use Rattle.task_seed.specs.declared.turns.Turn.{Turn}
use Rattle.task_seed.specs.Setups.{system, plan_of}
use Rattle.task_seed.specs.Turning.{System, key_of}
use Rattle.rollback.specs.ComponentView.{lowest_bound, machine_of, start_held}
use Rattle.exchange.specs.declared.stub.Stub.{Stub}
use Rattle.exchange.specs.declared.window.Window.{Window}
use Rattle.exchange.specs.LeaseView.{LeaseView, lease_of}
use Rattle.exchange.specs.Core.{StandFor}
use Rattle.exchange.specs.ExchangeView.{ExchangeView, exchange_of}

-- the lease of component j as the theory sees it; where there is none it is as at the start
abbrev pub lease_or_start : {P : Type 0} → Machine (List Datum) Named → ℕ → Option (LeaseView P) → Lease (List Datum) Named
lease_or_start m j None = start_lease m j
lease_or_start m j (Some h) = lease_of h

-- a list of leases, one a component
abbrev pub leases_of : {P : Type 0} → Machine (List Datum) Named → List (LeaseView P) → ℕ → Lease (List Datum) Named
leases_of m hs j = lease_or_start m j (slice_get hs j)

-- the bound at a key, or the end where there is none
abbrev pub bound_at : Option Key → Bound
bound_at None = End
bound_at (Some key) = At key

-- the key of the first turn of component i, or the end where it has none
abbrev pub first_bound : System → ℕ → Bound
first_bound s i = bound_at (key_of s i 0)

abbrev pub start_stub : System → ℕ → Stub
start_stub s i = record { base = lowest_bound; floor = first_bound s i; taken = []; standing = []; inbox = []; copies = []; passed = 0; ahead = key_of s i 0 }

-- the component's number
abbrev pub number_of : {P : Type 0} → LeaseView P → ℕ
number_of lease = lease.component.number

abbrev pub setup_of : {P : Type 0} → LeaseView P → P
setup_of lease = lease.component.setup

-- the numbers of the components
abbrev pub numbers : {T : Type 0} → Setup T → List ℕ
numbers setup = range_with_len 0 (length (composition (plan_of setup)))

module _ {T : Type 0} (turn_of : T → ℕ → ℕ → Option Turn) (setup : Setup T) where
  -- the lease of component i with a window, or with none
  abbrev pub start_within : Option Window → ℕ → LeaseView (Setup T)
  start_within window i =
      record {
        component = start_held turn_of setup i;
        tray = [];
        out = [];
        copies = record { of_sender = []; of_receiver = [] };
        floor = first_bound (system turn_of setup) i;
        window = window;
      }

  abbrev pub start_holding : ℕ → LeaseView (Setup T)
  start_holding = start_within None

  -- the exchange with a window, or with none
  abbrev pub start_shared_within : Option Window → ExchangeView (Setup T)
  start_shared_within window =
      record {
        setup = setup;
        stubs = map (start_stub (system turn_of setup)) (range_with_len 0 (length (composition (plan_of setup))));
        bound = lowest_bound;
        held = replicate (length (composition (plan_of setup))) [];
        given = 0;
        window = window;
      }

  abbrev pub start_shared : ExchangeView (Setup T)
  start_shared = start_shared_within None

  -- a lease for each component, in order
  abbrev pub start_leases_within : Option Window → List (LeaseView (Setup T))
  start_leases_within window = map (start_within window) (numbers setup)

  abbrev pub start_leases : List (LeaseView (Setup T))
  start_leases = start_leases_within None

  -- an exchange and leases stand for the world at its start
  abbrev pub StandForStart : ExchangeView (Setup T) → List (LeaseView (Setup T)) → Type 0
  StandForStart e hs = StandFor (machine_of turn_of setup) (exchange_of (machine_of turn_of setup) e) (leases_of (machine_of turn_of setup) hs) (start_world (machine_of turn_of setup))
