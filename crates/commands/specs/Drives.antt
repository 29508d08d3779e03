-- The report of `drive`.
use Rattle.std.specs.Prelude.{◌≡◌, ◌⊎◌, ℕ, List}
use Rattle.plans.specs.declared.plan.Plan.{Plan}
use Rattle.task_seed.specs.Table.{lines_of}
use Rattle.task_seed.specs.Turning.{System}
use Rattle.event_keys.specs.declared.step.Step.{Step}
use Rattle.trace.specs.declared.lines.Lines.{Lines}
use Rattle.trace.specs.declared.texts.Form.{Form}
use Rattle.trace.specs.Headed.{Behind, headed}
use Rattle.trace.specs.StepFile.{GivesSteps, IsStepsFault}
use Rattle.commands.specs.declared.driving.RefusedStep.{RefusedStep}
use Rattle.commands.specs.Driven.{IsDriven}
use Rattle.commands.specs.declared.report.Report.{Report}
use Rattle.commands.specs.declared.report.Report.TheVariants.{Done, No, Driven, Ran, Explained, Refused, Fault, Misused}
use Rattle.commands.specs.Checks.{HasBadLine}
use Rattle.commands.specs.Parts.{IsMemory}
use Rattle.commands.specs.Setups.{Given}
use Rattle.commands.specs.Simulations.{IsEngineReport, Means, MeansNone}

-- the bytes give steps, by which just these are refused, and the text of the turns that are committed after all became this
pub record IsDrivenBy (plan : Plan) (system : System) (lines : Lines) (Became : List ℕ → Type 0) (refused : List RefusedStep) (bytes : List ℕ) : Type 0 where
  pub steps : List Step
  pub given : GivesSteps plan (lines_of bytes) steps
  pub driven : IsDriven plan system lines steps Became refused

-- the same, whichever steps are refused
pub record IsDrivenInPart (plan : Plan) (system : System) (lines : Lines) (Cut : List ℕ → Type 0) (bytes : List ℕ) : Type 0 where
  pub refused : List RefusedStep
  pub driven : IsDrivenBy plan system lines Cut refused bytes

-- a write failed (60), and the text, behind the head that is asked for, is cut after so many bytes
pub record IsDriveCut (plan : Plan) (system : System) (form : Form) (bytes : List ℕ)
    (cut : List ℕ → ℕ → Type 0) (number : ℕ) : Type 0 where
  pub number_is : number ≡ 60
  pub written : ℕ
  pub stopped : IsDrivenInPart plan system form.lines (λ text. cut (headed form.head text) written)
      bytes

-- the report on the bytes of steps, for a plan with turns; the text stands behind the head that is
-- asked for
abbrev pub IsStepsReport : Plan → System → Form → List ℕ → Type 0 → (List ℕ → Type 0)
    → (List ℕ → ℕ → Type 0) → Report → Type 0
IsStepsReport plan system form bytes kept wrote cut Done = ⊥
IsStepsReport plan system form bytes kept wrote cut No = ⊥
IsStepsReport plan system form bytes kept wrote cut (Driven refused) =
    IsDrivenBy plan system form.lines (Behind form.head wrote) refused.items bytes
IsStepsReport plan system form bytes kept wrote cut (Ran stats) = ⊥
IsStepsReport plan system form bytes kept wrote cut Explained = ⊥
IsStepsReport plan system form bytes kept wrote cut (Refused number place) =
    HasBadLine IsStepsFault number place plan bytes × kept
IsStepsReport plan system form bytes kept wrote cut (Fault number) =
    (IsMemory number × kept) ⊎ IsDriveCut plan system form bytes cut number
IsStepsReport plan system form bytes kept wrote cut Misused = ⊥

-- The report of `drive` on a source, turns and steps, where the output was kept, a text was written
-- to it, or a write failed after so many bytes of a text. The steps are judged last.
abbrev pub IsDriveReport : List ℕ → Given → ℕ → List ℕ → Form → Type 0 → (List ℕ → Type 0)
    → (List ℕ → ℕ → Type 0) → Report → Type 0
IsDriveReport source given ticks steps form kept wrote cut =
    IsEngineReport (Means source given ticks) (MeansNone source given ticks) kept
    (λ plan system. IsStepsReport plan system form steps kept wrote cut)
