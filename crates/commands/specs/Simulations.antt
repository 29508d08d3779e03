-- What a source means with the turns that are given, and the report of `reference` on it.
use Rattle.std.specs.Prelude.{◌⊎◌, ℕ, List}
use Rattle.plans.specs.declared.plan.Plan.{Plan}
use Rattle.plans.specs.Plans.{composition}
use Rattle.task_seed.specs.Turning.{System}
use Rattle.trace.specs.declared.texts.Form.{Form}
use Rattle.compose.specs.Composed.{IsComposed}
use Rattle.commands.specs.declared.report.Report.{Report}
use Rattle.commands.specs.Compositions.{GivesNoPlan, HasPlan}
use Rattle.commands.specs.Parts.{IsSimulationReport}
use Rattle.commands.specs.Setups.{Given, GivesNoSystem, IsSystem}

-- the source means this plan, and with the turns that are given this system
pub record Means (source : List ℕ) (given : Given) (ticks : ℕ) (plan : Plan) (system : System)
    : Type 0 where
  pub composed : IsComposed source plan
  pub is : IsSystem plan given ticks system

-- the report where it means none; the source is judged before the turns
abbrev pub MeansNone : List ℕ → Given → ℕ → Report → Type 0
MeansNone source given ticks report =
    GivesNoPlan source report
    ⊎ HasPlan source (λ plan. GivesNoSystem (composition plan) given ticks report)

-- a plan and a system are meant of which this holds
pub record HasMeaning (Meant Holds : Plan → System → Type 0) : Type 0 where
  pub plan : Plan
  pub system : System
  pub meant : Meant plan system
  pub holds : Holds plan system

-- the report where none is meant, and then the output is kept; or else that on what is meant
abbrev pub IsEngineReport : (Plan → System → Type 0) → (Report → Type 0) → Type 0
    → (Plan → System → Report → Type 0) → Report → Type 0
IsEngineReport Meant MeantNone kept Ends report =
    (MeantNone report × kept) ⊎ HasMeaning Meant (λ plan system. Ends plan system report)

-- The report of `reference` on a source and turns, where the output was kept, a text was written
-- to it, or a write failed after so many bytes of a text.
abbrev pub IsSimulateReport : List ℕ → Given → ℕ → Form → Type 0 → (List ℕ → Type 0)
    → (List ℕ → ℕ → Type 0) → Report → Type 0
IsSimulateReport source given ticks form kept wrote cut =
    IsEngineReport (Means source given ticks) (MeansNone source given ticks) kept
    (λ plan system. IsSimulationReport plan system form wrote cut)
