-- The report of `check`.
use Rattle.std.specs.Prelude.{◌≡◌, ◌≢◌, ◌⊎◌, ℕ, Option, List}
use Rattle.plans.specs.declared.plan.Plan.{Plan}
use Rattle.reference.specs.declared.checking.Verdict.{Verdict}
use Rattle.reference.specs.declared.checking.Verdict.TheVariants.{Schedule, NotEnabled, NotAnAction}
use Rattle.trace.specs.declared.fault.TraceError.{TraceError}
use Rattle.trace.specs.Refusals.{trace_number, trace_place}
use Rattle.trace.specs.Versions.{HasFault}
use Rattle.commands.specs.Judged.{IsJudged}
use Rattle.commands.specs.declared.report.Report.{Report}
use Rattle.commands.specs.declared.report.Report.TheVariants.{Done, No, Driven, Ran, Explained, Refused, Fault, Misused}
use Rattle.commands.specs.Compositions.{GivesNoPlan, HasPlan}
use Rattle.commands.specs.Parts.{IsMemory}

-- the actions are a schedule
abbrev pub IsYes : Verdict → Type 0
IsYes verdict = verdict ≡ Schedule

-- they are none
abbrev pub IsNo : Verdict → Type 0
IsNo verdict = verdict ≢ Schedule

-- the actions have a verdict of this kind, and its line became this
pub record IsVerdictOn (IsOne : Verdict → Type 0) (Became : List ℕ → Type 0) (plan : Plan) (bytes : List ℕ) : Type 0 where
  pub verdict : Verdict
  pub one : IsOne verdict
  pub judged : IsJudged plan bytes verdict Became

-- a line has a fault, with this number and place
pub record HasBadLine (IsFaulty : Plan → List ℕ → TraceError → Type 0) (number : ℕ) (place : Option ℕ) (plan : Plan) (bytes : List ℕ) : Type 0 where
  pub error : TraceError
  pub refused : IsFaulty plan bytes error
  pub judged : trace_number error ≢ 1
  pub number_is : number ≡ trace_number error
  pub place_is : place ≡ trace_place error

-- the report of a verdict whose line was written
abbrev pub verdict_report : Verdict → Report
verdict_report Schedule = Done
verdict_report (NotEnabled at) = No
verdict_report (NotAnAction at) = No

-- any verdict
abbrev pub IsAny : Verdict → Type 0
IsAny verdict = Unit {0}

-- a write failed (60), and the verdict's line is cut after so many bytes
pub record IsCheckCut (plan : Plan) (bytes : List ℕ) (cut : List ℕ → ℕ → Type 0) (number : ℕ)
    : Type 0 where
  pub number_is : number ≡ 60
  pub written : ℕ
  pub stopped : IsVerdictOn IsAny (λ text. cut text written) plan bytes

-- the report on the bytes of actions, for a plan
abbrev pub IsActionsReport : Plan → List ℕ → Type 0 → (List ℕ → Type 0)
    → (List ℕ → ℕ → Type 0) → Report → Type 0
IsActionsReport plan bytes kept wrote cut Done = IsVerdictOn IsYes wrote plan bytes
IsActionsReport plan bytes kept wrote cut No = IsVerdictOn IsNo wrote plan bytes
IsActionsReport plan bytes kept wrote cut (Driven refused) = ⊥
IsActionsReport plan bytes kept wrote cut (Ran stats) = ⊥
IsActionsReport plan bytes kept wrote cut Explained = ⊥
IsActionsReport plan bytes kept wrote cut (Refused number place) =
    HasBadLine HasFault number place plan bytes × kept
IsActionsReport plan bytes kept wrote cut (Fault number) =
    (IsMemory number × kept) ⊎ IsCheckCut plan bytes cut number
IsActionsReport plan bytes kept wrote cut Misused = ⊥

-- The report of `check` on a source and actions, where the output was kept, a text was written to
-- it, or a write failed after so many bytes of a text. The source is judged before the actions.
abbrev pub IsCheckReport : List ℕ → List ℕ → Type 0 → (List ℕ → Type 0)
    → (List ℕ → ℕ → Type 0) → Report → Type 0
IsCheckReport source actions kept wrote cut report =
    (GivesNoPlan source report × kept)
    ⊎ HasPlan source (λ plan. IsActionsReport plan actions kept wrote cut report)
