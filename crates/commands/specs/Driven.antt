-- What `drive` writes, and which steps are refused.
use Rattle.std.specs.Prelude.{◌≡◌, ◌++◌, ◌+◌, ℕ, List, [], ◌∷◌, length, map}
use Rattle.terms.specs.Datum.{Datum}
use Rattle.terms.specs.Named.{Named}
use Rattle.event_keys.specs.declared.outcome.Turned.{Turned}
use Rattle.virtual_time.specs.Replies.{Reply, Processed, Delivered, Met, RolledBack, Committed, Refused, Runs}
use Rattle.virtual_time.specs.Worlds.{World, start_world}
use Rattle.plans.specs.declared.plan.Plan.{Plan}
use Rattle.task_seed.specs.Machines.{machine}
use Rattle.task_seed.specs.Turning.{System}
use Rattle.task_seed.specs.Taken.{turns_of}
use Rattle.event_keys.specs.declared.step.Step.{Step}
use Rattle.world.specs.Steps.{step_of}
use Rattle.schedules.specs.Schedules.{AreAllTurns, AreSchedule, KeysFit}
use Rattle.trace.specs.declared.fault.WriteFault.{WriteFault}
use Rattle.trace.specs.declared.lines.Lines.{Lines}
use Rattle.trace.specs.Lines.{text_of}
use Rattle.commands.specs.declared.driving.RefusedStep.{RefusedStep}
use Rattle.commands.specs.declared.fault.DriveFault.{DriveFault}
use Rattle.commands.specs.declared.fault.DriveFault.TheVariants as fault

-- the place of a reply and the number of its refusal in front of these, where it is a refusal
abbrev pub add_refused : ℕ → Reply → List RefusedStep → List RefusedStep
add_refused place (Processed key) refused = refused
add_refused place (Delivered count) refused = refused
add_refused place Met refused = refused
add_refused place (RolledBack key) refused = refused
add_refused place (Committed count) refused = refused
add_refused place (Refused number) refused = record { step = place; number = number } ∷ refused

-- the refusals among replies: the place of each, the first reply's being the one that is given, and its number
abbrev pub refused_from : ℕ → List Reply → List RefusedStep
refused_from place [] = []
refused_from place (reply ∷ replies) = add_refused place reply (refused_from (place + 1) replies)

-- the text of the turns is a beginning of the text of all turns of the simulator that always takes the least key; the numbers of their keys fit their
-- types, and their actions are a schedule of the plan
pub record IsBeginning (plan : Plan) (system : System) (lines : Lines) (turns : List Turned) : Type 0 where
  pub keys : KeysFit turns
  pub scheduled : AreSchedule plan turns
  pub all : List Turned
  pub are : AreAllTurns plan system all
  pub rest : List ℕ
  pub begins : text_of plan lines all ≡ text_of plan lines turns ++ rest

-- From the start the steps, one after the other, have replies and lead to a world. The refused ones among them are these, the turns are those
-- that are committed in that world, in the order of their keys, and their text became this.
pub record IsDriven (plan : Plan) (system : System) (lines : Lines) (steps : List Step) (Became : List ℕ → Type 0) (refused : List RefusedStep) : Type 0 where
  pub replies : List Reply
  pub world : World (List Datum) Named
  pub runs : Runs (machine system) (length system.composition) (start_world (machine system)) (map step_of steps) replies world
  pub refused_are : refused ≡ refused_from 1 replies
  pub turns : List Turned
  pub committed : turns_of turns ≡ world.committed
  pub beginning : IsBeginning plan system lines turns
  pub became : Became (text_of plan lines turns)

-- the same, whichever steps were refused
pub record IsDrivenAnyhow (plan : Plan) (system : System) (lines : Lines) (steps : List Step) (Became : List ℕ → Type 0) : Type 0 where
  pub refused : List RefusedStep
  pub driven : IsDriven plan system lines steps Became refused

-- why not all is written: what was there is kept, or a write failed and the text is cut
abbrev pub IsUndriven : Plan → System → Lines → List Step → Type 0 → (List ℕ → WriteFault → Type 0) → DriveFault → Type 0
IsUndriven plan system lines steps kept cut fault.NoMemory = kept
IsUndriven plan system lines steps kept cut (fault.Write failed) = IsDrivenAnyhow plan system lines steps (λ text. cut text failed)
