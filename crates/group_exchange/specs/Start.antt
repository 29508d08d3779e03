-- What workers share, and the leases of groups, at the start.
use Rattle.std.specs.Prelude.{◌≡◌, ℕ, Option, None, Some, List, [], map, length, replicate, slice_get}
use Rattle.std.specs.List.{range_with_len}
use Rattle.terms.specs.Datum.{Datum}
use Rattle.terms.specs.Named.{Named}
use Rattle.virtual_time.specs.Machine.{Machine}
use Rattle.virtual_time.specs.Worlds.{start_world}
use Rattle.virtual_time.specs.Groups.Leases.{Lease, start_lease}
use Rattle.plans.specs.Plans.{composition}
use Rattle.task_seed.specs.declared.setup.Setup.{Setup}
use Rattle.task_seed.specs.declared.turns.Turn.{Turn}
use Rattle.task_seed.specs.Setups.{system, plan_of}
use Rattle.task_seed.specs.Turning.{System, key_of}
use Rattle.rollback.specs.ComponentView.{lowest_bound, machine_of}
use Rattle.groups.specs.declared.window.Window.{Window}
use Rattle.groups.specs.GroupView.{AreMembers, GroupView, lease_of}
use Rattle.group_exchange.specs.declared.passage.Passage.{Passage}
use Rattle.group_exchange.specs.declared.stub.Stub.{Stub}
use Rattle.group_exchange.specs.Core.{StandFor}
use Rattle.group_exchange.specs.ExchangeView.{ExchangeView, exchange_of, group_at}

-- the lease of group g as the theory sees it; where there is none it is as at the start
abbrev pub lease_or_start : {P : Type 0} → Machine (List Datum) Named → (ℕ → ℕ) → ℕ → ℕ → Option (GroupView P) → Lease (List Datum) Named
lease_or_start m group count g None = start_lease m group count g
lease_or_start m group count g (Some lease) = lease_of m lease

-- a list of leases, one a group, where there are so many components
abbrev pub leases_of : {P : Type 0} → Machine (List Datum) Named → (ℕ → ℕ) → ℕ → List (GroupView P) → ℕ → Lease (List Datum) Named
leases_of m group count leases g = lease_or_start m group count g (slice_get leases g)

-- nothing is counted yet
abbrev pub start_passage : System → ℕ → Passage
start_passage s i = record { passed = 0; ahead = key_of s i 0 }

-- what is kept of a lease at the start
abbrev pub stub_of_lease : {P : Type 0} → GroupView P → Stub
stub_of_lease lease = record { base = lowest_bound; floor = lease.floor; taken = []; standing = []; inbox = []; copies = [] }

module _ {T : Type 0} (turn_of : T → ℕ → ℕ → Option Turn) (setup : Setup T) (groups : List ℕ) where
  -- a lease is that of this group at the start
  pub record IsStarted (number : ℕ) (lease : GroupView (Setup T)) : Type 0 where
    pub number_is : lease.number ≡ number
    pub setup_is : lease.setup ≡ setup
    pub members : AreMembers (group_at groups) number lease.components
    pub lease_is : lease_of (machine_of turn_of setup) lease ≡ start_lease (machine_of turn_of setup) (group_at groups) (length (composition (plan_of setup))) number

  -- leases are those of so many groups, in order
  pub record AreStarted (count : ℕ) (leases : List (GroupView (Setup T))) : Type 0 where
    pub many : length leases ≡ count
    pub each : (g : ℕ) (lease : GroupView (Setup T)) → slice_get leases g ≡ Some lease → IsStarted g lease

  -- the exchange of these leases with a window, or with none
  abbrev pub start_shared_within : Option Window → List (GroupView (Setup T)) → ExchangeView (Setup T)
  start_shared_within window leases =
      record {
        setup = setup;
        groups = groups;
        stubs = map stub_of_lease leases;
        passages = map (start_passage (system turn_of setup)) (range_with_len 0 (length (composition (plan_of setup))));
        bound = lowest_bound;
        held = replicate (length (composition (plan_of setup))) [];
        given = 0;
        window = window;
      }

  abbrev pub start_shared : List (GroupView (Setup T)) → ExchangeView (Setup T)
  start_shared = start_shared_within None

  -- an exchange and leases stand for the world at its start
  abbrev pub StandForStart : ExchangeView (Setup T) → List (GroupView (Setup T)) → Type 0
  StandForStart e leases =
      StandFor (machine_of turn_of setup) (group_at groups) (exchange_of (machine_of turn_of setup) e)
      (leases_of (machine_of turn_of setup) (group_at groups) (length (composition (plan_of setup))) leases) (start_world (machine_of turn_of setup))
