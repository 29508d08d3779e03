-- A step of a world, before and after.
use Rattle.std.specs.Prelude.{◌≡◌, ℕ, Option, Some, List, length, slice_get, slice_set}
use Rattle.terms.specs.Named.{Named}
use Rattle.event_keys.specs.declared.key.Bound.{Bound}
use Rattle.event_keys.specs.declared.message.Message.{Message}
use Rattle.event_keys.specs.declared.message.Signed.{Signed}
use Rattle.event_keys.specs.declared.outcome.Turned.{Turned}
use Rattle.virtual_time.specs.Replies.{Answers, Reply}
use Rattle.virtual_time.specs.Worlds.{Step}
use Rattle.task_seed.specs.declared.setup.Setup.{Setup}
use Rattle.task_seed.specs.declared.turns.Turn.{Turn}
use Rattle.task_seed.specs.Setups.{system}
use Rattle.rollback.specs.ComponentView.{ComponentView, last_of, machine_of}
use Rattle.rollback.specs.Stepped.{IsNextSent, IsUnsent, rolled_back, stepped, taken_back, with_coming}
use Rattle.world.specs.Steps.{delivering, meeting}
use Rattle.world.specs.Simulation.{IsSimulation, Simulation, world_of}

module _ {T : Type 0} (turn_of : T → ℕ → ℕ → Option Turn) where
  -- the step with this answer leads to the world, which is one that steps reach
  pub record IsStep (w : Simulation (Setup T)) (step : Step Named) (reply : Reply) (after : Simulation (Setup T)) : Type 0 where
    pub answers : Answers (machine_of turn_of w.setup) (length (system turn_of w.setup).composition) (world_of (machine_of turn_of w.setup) w) step reply (world_of (machine_of turn_of w.setup) after)
    pub kept : IsSimulation (system turn_of w.setup) after

  -- the same, wherever the bound and the committed list stand
  abbrev pub Steps : Setup T → List (ComponentView (Setup T)) → List Signed → List (ComponentView (Setup T)) → List Signed → Step Named → Reply → Type 0
  Steps setup components flight new_components new_flight step reply =
      (bound : Bound) (committed : List Turned)
      → IsSimulation (system turn_of setup) (record { setup = setup; components = components; flight = flight; bound = bound; committed = committed })
      → IsStep (record { setup = setup; components = components; flight = flight; bound = bound; committed = committed }) step reply (record { setup = setup; components = new_components; flight = new_flight; bound = bound; committed = committed })

  -- these are the components and the messages in flight of some world
  abbrev pub HasWorld : Setup T → List (ComponentView (Setup T)) → List Signed → Type 0
  HasWorld setup components flight = (bound : Bound) × (committed : List Turned) × IsSimulation (system turn_of setup) (record { setup = setup; components = components; flight = flight; bound = bound; committed = committed })

  -- this one comes to its receiver, or is refused
  abbrev pub Delivers : Setup T → List (ComponentView (Setup T)) → List Signed → List (ComponentView (Setup T)) → List Signed → Signed → Reply → Type 0
  Delivers setup components flight new_components new_flight signed = Steps setup components flight new_components new_flight (delivering signed)

  -- a message meets its antimessage, or is refused
  abbrev pub Meets : Setup T → List (ComponentView (Setup T)) → List Signed → List Signed → Message → Reply → Type 0
  Meets setup components flight new_flight message = Steps setup components flight components new_flight (meeting message)

module _ {T : Type 0} (turn_of : T → ℕ → ℕ → Option Turn) (i : ℕ) (components : List (ComponentView (Setup T))) (flight : List Signed) (new_components : List (ComponentView (Setup T))) (new_flight : List Signed) where
  -- component i did its next entry
  abbrev pub IsSteppedAt : Type 0
  IsSteppedAt = (c : ComponentView (Setup T)) → slice_get components i ≡ Some c → (new_components ≡ slice_set components i (stepped turn_of c)) × IsNextSent turn_of c flight new_flight

  -- it took its last entry back
  abbrev pub IsRolledBackAt : Type 0
  IsRolledBackAt = (c : ComponentView (Setup T)) → slice_get components i ≡ Some c → (new_components ≡ slice_set components i (rolled_back turn_of c)) × IsUnsent turn_of c (last_of c.history.done) flight new_flight

  -- this one came to it
  abbrev pub IsComeTo : Signed → Type 0
  IsComeTo signed = (c : ComponentView (Setup T)) → slice_get components i ≡ Some c → (new_components ≡ slice_set components i (with_coming turn_of c signed)) × IsUnsent turn_of c (taken_back turn_of c signed) flight new_flight

-- what is so of component i, if there is one
abbrev pub OfComponent : {P : Type 0} → ℕ → List (ComponentView P) → (ComponentView P → Type 0) → Type 0
OfComponent {P} i components Holds = (c : ComponentView P) → slice_get components i ≡ Some c → Holds c
