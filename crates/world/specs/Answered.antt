-- What a step of a world is in the theory.
use Rattle.std.specs.Prelude.{◌≡◌, ◌≤◌, ℕ, Option, Result, List, ◌++◌, length, map}
use Rattle.terms.specs.Datum.{Datum}
use Rattle.terms.specs.Named.{Named}
use Rattle.plans.specs.Plans.{composition}
use Rattle.virtual_time.specs.Machine.{Machine}
use Rattle.virtual_time.specs.Reference.{Turn as Taken}
use Rattle.virtual_time.specs.Replies.{Answers, IsReached, IsVirtualTime, Reply, Runs}
use Rattle.virtual_time.specs.Rules.{IsRollBack}
use Rattle.virtual_time.specs.Worlds.{Step, World}
use Rattle.task_seed.specs.declared.setup.Setup.{Setup}
use Rattle.task_seed.specs.declared.turns.Turn.{Turn}
use Rattle.task_seed.specs.Setups.{plan_of}
use Rattle.rollback.specs.ComponentView.{machine_of}
use Rattle.event_keys.specs.declared.step.Step.{Step as CodeStep}
use Rattle.world.specs.declared.step.Reply.{Reply as CodeReply}
use Rattle.world.specs.declared.step.StepRefused.{StepRefused}
use Rattle.world.specs.Steps.{answer_of, step_of}
use Rattle.world.specs.Simulation.{Simulation, world_of}
use Rattle.world.specs.SettingOut.{SetsOut}
use Rattle.world.specs.ThereAndBack.{IsThereAndBack}

-- from a world whose turns are read by turn_of
module _ {T : Type 0} (turn_of : T → ℕ → ℕ → Option Turn) (old : Simulation (Setup T)) where
  -- the machine of its setup, and the number of its components
  abbrev pub theory : Machine (List Datum) Named
  theory = machine_of turn_of old.setup

  abbrev pub count : ℕ
  count = length (composition (plan_of old.setup))

  -- a world of the same setup, as the theory sees it
  abbrev pub seen : Simulation (Setup T) → World (List Datum) Named
  seen w = world_of theory w

  -- the step has this reply, and leads to the new world
  abbrev pub Answered : Step Named → Reply → Simulation (Setup T) → Type 0
  Answered step reply new = Answers theory count (seen old) step reply (seen new)

  -- the steps have these replies, and lead to the new world
  abbrev pub Ran : List (Step Named) → List Reply → Simulation (Setup T) → Type 0
  Ran steps replies new = Runs theory count (seen old) steps replies (seen new)

  -- they lead there and back for component i
  abbrev pub WentThereAndBack : ℕ → List (Step Named) → List Reply → Simulation (Setup T) → Type 0
  WentThereAndBack i steps replies new = IsThereAndBack theory count i (seen old) steps replies (seen new)

  -- what was committed stays, and more may come before it
  abbrev pub StaysCommitted : Simulation (Setup T) → Type 0
  StaysCommitted new = (extra : List (Taken Named)) × ((seen new).committed ≡ extra ++ (seen old).committed)

  -- this is global virtual time in a world of the same setup
  abbrev pub HasVirtualTime : Simulation (Setup T) → ℕ → Type 0
  HasVirtualTime w g = IsVirtualTime theory (seen w) g

  -- steps reach it from the start
  abbrev pub IsReachedBySteps : Type 0
  IsReachedBySteps = IsReached theory count (seen old)

  -- no step but a roll-back lowers global virtual time
  abbrev pub VirtualTimeRises : Step Named → Simulation (Setup T) → Type 0
  VirtualTimeRises step new = (g h : ℕ) → (IsRollBack step → ⊥) → HasVirtualTime old g → HasVirtualTime new h → g ≤ h

  -- steps with these answers lead there and back for component i
  abbrev pub ThereAndBack : ℕ → List CodeStep → List (Result CodeReply StepRefused) → Simulation (Setup T) → Type 0
  ThereAndBack i steps answers = WentThereAndBack i (map step_of steps) (map answer_of answers)

  -- who sets out by these steps comes back: with these answers they lead there and back, and the world is the one before
  abbrev pub ComesBack : List CodeStep → List (Result CodeReply StepRefused) → Simulation (Setup T) → Type 0
  ComesBack steps answers new =
      (i : ℕ) → SetsOut theory i (seen old) (map step_of steps) (map answer_of answers) → ThereAndBack i steps answers new × (new ≡ old)
