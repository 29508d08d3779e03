-- What the components of a group give up below a bound.
use Rattle.std.specs.Prelude.{◌≡◌, ℕ, Option, Some, List, [], map, length, slice_get}
use Rattle.event_keys.specs.declared.key.Bound.{Bound}
use Rattle.event_keys.specs.declared.outcome.Turned.{Turned}
use Rattle.event_keys.specs.Ranks.{rank_of_bound}
use Rattle.raw_events.specs.Around.{Around}
use Rattle.raw_events.specs.Onto.{onto}
use Rattle.virtual_time.specs.Entries.{below}
use Rattle.virtual_time.specs.Records.{turns_among}
use Rattle.task_seed.specs.declared.setup.Setup.{Setup}
use Rattle.task_seed.specs.declared.turns.Turn.{Turn}
use Rattle.task_seed.specs.Taken.{turn_of as taken_turn}
use Rattle.rollback.specs.ComponentView.{ComponentView, cut_at, machine_of}

-- a component without its done entries below a bound, with the bound as its base
abbrev pub cut_to : {T : Type 0} → (T → ℕ → ℕ → Option Turn) → Bound → ComponentView (Setup T) → ComponentView (Setup T)
cut_to turn_of bound c = cut_at (machine_of turn_of c.setup) bound c

-- the same of all components
abbrev pub cut_all : {T : Type 0} → (T → ℕ → ℕ → Option Turn) → Bound → List (ComponentView (Setup T)) → List (ComponentView (Setup T))
cut_all turn_of bound cs = map (cut_to turn_of bound) cs

-- the own turns that a component gives up, the oldest first
pub record IsGivenUp {P : Type 0} (bound : Bound) (c : ComponentView P) (given : Around Turned) : Type 0 where
  pub front : given.before ≡ []
  pub turns : map taken_turn given.after ≡ onto (turns_among (below (rank_of_bound bound) c.history.done)) []

-- those of each component, in their order
pub record AreGivenUp {P : Type 0} (bound : Bound) (cs : List (ComponentView P)) (lists : List (Around Turned)) : Type 0 where
  pub many : length lists ≡ length cs
  pub each : (q : ℕ) (c : ComponentView P) (turns : Around Turned) → slice_get cs q ≡ Some c → slice_get lists q ≡ Some turns → IsGivenUp bound c turns
