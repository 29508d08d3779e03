-- The numbers of the refusals.
use Rattle.std.specs.Prelude.{ℕ}
use Rattle.rollback.specs.declared.refused.ProcessRefused.{ProcessRefused}
use Rattle.rollback.specs.declared.refused.ProcessRefused.TheVariants as process
use Rattle.world.specs.declared.step.StepRefused.{StepRefused}
use Rattle.world.specs.declared.step.StepRefused.TheVariants.{NoMemory, NoSuchComponent, NothingPending, NoSuchMessage, NothingToRollBack, AheadOfTime, BehindCommit}

-- the number of a refused step
abbrev pub step_number : StepRefused → ℕ
step_number NoMemory = 1
step_number NoSuchComponent = 30
step_number NothingPending = 31
step_number NoSuchMessage = 32
step_number NothingToRollBack = 33
step_number AheadOfTime = 34
step_number BehindCommit = 35

-- the refusal of a step by that of a component
abbrev pub refused_by : ProcessRefused → StepRefused
refused_by process.NoMemory = NoMemory
refused_by process.NothingPending = NothingPending
