-- Turns of the simulator, and the schedules that their actions are (Lynch, Distributed Algorithms, section 8.2.1).
use Rattle.std.specs.Prelude.{◌≡◌, ℕ, ◌^◌, ◌<◌, ◌≤◌, List, [], ◌∷◌}
use Rattle.std.specs.List.{AllByRecursion}
use Rattle.terms.specs.Named.{Named}
use Rattle.event_keys.specs.declared.key.Key.{Key}
use Rattle.event_keys.specs.declared.outcome.Turned.{Turned}
use Rattle.event_keys.specs.Entries.{action_of}
use Rattle.virtual_time.specs.Executions.{add_action}
use Rattle.virtual_time.specs.Reference.{IsReference, reference_below}
use Rattle.plans.specs.declared.plan.Plan.{Plan}
use Rattle.plans.specs.Plans.{composition}
use Rattle.io_automata.specs.Steps.{IsSchedule}
use Rattle.task_seed.specs.Machines.{machine, end_rank}
use Rattle.task_seed.specs.Turning.{System}
use Rattle.task_seed.specs.Taken.{turns_of}

-- the actions of turns, idle turns left out
abbrev pub actions_of : List Turned → List Named
actions_of [] = []
actions_of (turned ∷ turns) = add_action (action_of turned.outcome) (actions_of turns)

-- the actions of these turns, idle turns left out, are a schedule of the plan's composition
abbrev pub AreSchedule : Plan → List Turned → Type 0
AreSchedule plan turns = IsSchedule (composition plan) (actions_of turns)

-- a key's tick, component and number fit their types, of 64, 16 and 64 bits: so its rank tells the key
pub record KeyFits (key : Key) : Type 0 where
  pub tick : key.tick < 2 ^ 64
  pub component : key.component < 2 ^ 16
  pub number : key.number < 2 ^ 64

-- so do those of the key of each of these turns
abbrev pub KeysFit : List Turned → Type 0
KeysFit turns = AllByRecursion (λ turned. KeyFits turned.key) turns

-- These are all turns of the simulator that always takes the least key, in the order of their keys, whose numbers fit their types; and their
-- actions are a schedule of the plan's composition.
pub record AreAllTurns (plan : Plan) (s : System) (turns : List Turned) : Type 0 where
  pub all : turns_of turns ≡ reference_below (machine s) end_rank
  pub keys : KeysFit turns
  pub scheduled : AreSchedule plan turns

-- all turns of the simulator below a bound are such that their actions are a schedule, whatever the bound
abbrev pub HasSchedules : Plan → System → Type 0
HasSchedules plan s = (turns : List Turned) (b : ℕ) → IsReference (machine s) b (turns_of turns) → AreSchedule plan turns

-- the same, where the turns are told by their list
abbrev pub HasSchedulesBelow : Plan → System → Type 0
HasSchedulesBelow plan s = (turns : List Turned) (b : ℕ) → b ≤ end_rank → turns_of turns ≡ reference_below (machine s) b → AreSchedule plan turns
