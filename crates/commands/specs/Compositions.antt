-- What a source is composed to, and why it isn't.
use Rattle.std.specs.Prelude.{◌≡◌, ◌≢◌, ℕ, Option, List}
use Rattle.plans.specs.declared.plan.Plan.{Plan}
use Rattle.compose.specs.declared.source_error.SourceError.{SourceError}
use Rattle.compose.specs.Composed.{IsComposed, IsRefused}
use Rattle.compose.specs.Refusals.{source_number, source_place}
use Rattle.commands.specs.declared.report.Report.{Report}
use Rattle.commands.specs.Parts.{IsMemory, IsRefusal}

-- the source is refused with this number and place
pub record IsBadSource (source : List ℕ) (number : ℕ) (place : Option ℕ) : Type 0 where
  pub error : SourceError
  pub refused : IsRefused source error
  pub judged : source_number error ≢ 1
  pub number_is : number ≡ source_number error
  pub place_is : place ≡ source_place error

-- the report where a source gives no plan
abbrev pub GivesNoPlan : List ℕ → Report → Type 0
GivesNoPlan source = IsRefusal (IsBadSource source) IsMemory

-- the source means a plan of which this holds
pub record HasPlan (source : List ℕ) (Holds : Plan → Type 0) : Type 0 where
  pub plan : Plan
  pub composed : IsComposed source plan
  pub holds : Holds plan
