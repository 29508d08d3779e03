-- What `reference` writes.
use Rattle.std.specs.Prelude.{ℕ, List}
use Rattle.event_keys.specs.declared.outcome.Turned.{Turned}
use Rattle.plans.specs.declared.plan.Plan.{Plan}
use Rattle.task_seed.specs.Turning.{System}
use Rattle.schedules.specs.Schedules.{AreAllTurns}
use Rattle.trace.specs.declared.fault.WriteFault.{WriteFault}
use Rattle.trace.specs.declared.lines.Lines.{Lines}
use Rattle.trace.specs.Lines.{text_of}
use Rattle.commands.specs.Driven.{IsBeginning}
use Rattle.commands.specs.declared.fault.SimulateFault.{SimulateFault}
use Rattle.commands.specs.declared.fault.SimulateFault.TheVariants as fault

-- the text of all turns of the simulator that always takes the least key, whose actions are a schedule of the plan, became this
pub record IsSimulated (plan : Plan) (system : System) (lines : Lines) (Became : List ℕ → Type 0) : Type 0 where
  pub turns : List Turned
  pub are : AreAllTurns plan system turns
  pub became : Became (text_of plan lines turns)

-- the text of turns that this simulator takes first, a beginning of the text of all of them, became
-- this; their actions are a schedule too
pub record IsSimulatedInPart (plan : Plan) (system : System) (lines : Lines)
    (Became : List ℕ → Type 0) : Type 0 where
  pub turns : List Turned
  pub beginning : IsBeginning plan system lines turns
  pub became : Became (text_of plan lines turns)

-- why not all is written: the lines of the first turns went out, or a write failed and the text is
-- cut
abbrev pub IsUnsimulated : Plan → System → Lines → (List ℕ → Type 0)
    → (List ℕ → WriteFault → Type 0) → SimulateFault → Type 0
IsUnsimulated plan system lines Became cut fault.NoMemory =
    IsSimulatedInPart plan system lines Became
IsUnsimulated plan system lines Became cut (fault.Write failed) =
    IsSimulated plan system lines (λ text. cut text failed)
