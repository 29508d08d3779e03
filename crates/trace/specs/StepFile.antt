-- What a file of steps gives, and its first line at fault.
use Rattle.std.specs.Prelude.{◌≡◌, ℕ, List, [], ◌∷◌}
use Rattle.plans.specs.declared.plan.Plan.{Plan}
use Rattle.event_keys.specs.declared.step.Step.{Step}
use Rattle.trace.specs.declared.fault.TraceError.{TraceError}
use Rattle.trace.specs.FileFaults.{IsFileFault}
use Rattle.trace.specs.StepLines.{StepLine, step_text, IsStepLine, Says}

-- the text is that of a line that says this step
pub record SaysStep (plan : Plan) (text : List ℕ) (said : Step) : Type 0 where
  pub line : StepLine
  pub proper : IsStepLine plan line
  pub is : text ≡ step_text plan line
  pub says : Says plan line said

-- the text is that of no line, whatever the action's name
abbrev pub IsBadStep : Plan → List ℕ → Type 0
IsBadStep plan text = (line : StepLine) → IsStepLine plan line → text ≡ step_text plan line → ⊥

-- the text is that of a line whose action the composition doesn't have
pub record IsUnknownStep (plan : Plan) (text : List ℕ) : Type 0 where
  pub line : StepLine
  pub proper : IsStepLine plan line
  pub is : text ≡ step_text plan line
  pub unknown : (said : Step) → Says plan line said → ⊥

-- lines, one after another, say these steps, one a line
abbrev pub GivesSteps : Plan → List (List ℕ) → List Step → Type 0
GivesSteps plan [] [] = Unit {0}
GivesSteps plan (text ∷ texts) (said ∷ steps) = SaysStep plan text said × GivesSteps plan texts steps
GivesSteps plan texts steps = ⊥

-- why a file isn't read
abbrev pub IsStepsFault : Plan → List ℕ → TraceError → Type 0
IsStepsFault plan bytes error = IsFileFault (GivesSteps plan) (IsBadStep plan) (IsUnknownStep plan) bytes error
