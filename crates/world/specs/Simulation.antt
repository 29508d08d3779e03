-- A world as its callers see it, and the world of the theory that it is.
use Rattle.std.specs.Prelude.{◌≡◌, ℕ, ◌≤◌, Option, None, Some, List, [], map, length, slice_get}
use Rattle.std.specs.List.{range_with_len}
use Rattle.terms.specs.Datum.{Datum}
use Rattle.terms.specs.Named.{Named}
use Rattle.event_keys.specs.declared.key.Bound.{Bound}
use Rattle.event_keys.specs.declared.message.Sign.{Sign}
use Rattle.event_keys.specs.declared.message.Sign.TheVariants.{Plus, Minus}
use Rattle.event_keys.specs.declared.message.Signed.{Signed}
use Rattle.event_keys.specs.declared.outcome.Turned.{Turned}
use Rattle.event_keys.specs.Ranks.{rank_of_bound}
use Rattle.plans.specs.Plans.{composition}
use Rattle.virtual_time.specs.Machine.{Machine}
use Rattle.virtual_time.specs.Records.{Record}
use Rattle.virtual_time.specs.Replies.{IsReached}
use Rattle.virtual_time.specs.Worlds.{Part, World, start_world}
use Rattle.task_seed.specs.declared.setup.Setup.{Setup}
use Rattle.task_seed.specs.declared.turns.Turn.{Turn}
use Rattle.task_seed.specs.Machines.{machine}
use Rattle.task_seed.specs.Setups.{plan_of}
use Rattle.task_seed.specs.Turning.{System}
use Rattle.task_seed.specs.Taken.{turn_of}
use Rattle.rollback.specs.Flight.{in_flight}
use Rattle.rollback.specs.ComponentView.{ComponentView, lowest_bound, machine_of, start_held, start_record}

-- a setup, its components in the order of their numbers, the signed messages in flight, the committed bound, and the committed turns
pub record Simulation (P : Type 0) : Type 0 where
  pub setup : P
  pub components : List (ComponentView P)
  pub flight : List Signed
  pub bound : Bound
  -- the last one first
  pub committed : List Turned

-- the record of component j, or that of the start where there is no component j
abbrev pub record_or_start : {P : Type 0} → Machine (List Datum) Named → ℕ → Option (ComponentView P) → Record (List Datum) Named
record_or_start m j None = start_record m j
record_or_start m j (Some c) = c.history

-- a record, and what is in flight to component j
abbrev pub part_of : Record (List Datum) Named → List Signed → ℕ → Part (List Datum) Named
part_of r flight j = record { base = r.base; first = r.first; done = r.done; pending = r.pending; owed = r.owed; plus = in_flight Plus j flight; minus = in_flight Minus j flight }

-- as the theory sees it
abbrev pub world_of : {P : Type 0} → Machine (List Datum) Named → Simulation P → World (List Datum) Named
world_of m w =
    record {
      part = λ j. part_of (record_or_start m j (slice_get w.components j)) w.flight j;
      bound = rank_of_bound w.bound;
      committed = map turn_of w.committed;
    }

-- component j of the setup, with the committed bound as its base
pub record IsComponent {P : Type 0} (w : Simulation P) (j : ℕ) (c : ComponentView P) : Type 0 where
  pub number : c.number ≡ j
  pub setup : c.setup ≡ w.setup
  pub base : c.base ≡ w.bound

-- a world that steps reach from the start, with a component for each number, and nothing in flight to any other
pub record IsSimulation {P : Type 0} (s : System) (w : Simulation P) : Type 0 where
  pub reached : IsReached (machine s) (length s.composition) (world_of (machine s) w)
  pub many : length w.components ≡ length s.composition
  pub components : (j : ℕ) (c : ComponentView P) → slice_get w.components j ≡ Some c → IsComponent w j c
  pub inside : (sign : Sign) (j : ℕ) → length s.composition ≤ j → in_flight sign j w.flight ≡ []

module _ {T : Type 0} (turn_of : T → ℕ → ℕ → Option Turn) (setup : Setup T) where
  -- the world at the start
  abbrev pub start_simulation : Simulation (Setup T)
  start_simulation = record { setup = setup; components = map (start_held turn_of setup) (range_with_len 0 (length (composition (plan_of setup)))); flight = []; bound = lowest_bound; committed = [] }

  -- as the theory sees it, a world is the one at the start
  abbrev pub IsAtStart : Simulation (Setup T) → Type 0
  IsAtStart w = world_of (machine_of turn_of setup) w ≡ start_world (machine_of turn_of setup)
