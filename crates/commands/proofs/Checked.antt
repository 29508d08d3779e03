-- Reports on judged actions, put together.
use Rattle.std.proofs.Common.{inl, inr, ℕ, List, refl, arith}
use Rattle.plans.specs.declared.plan.Plan.{Plan}
use Rattle.reference.specs.declared.checking.Verdict.{Verdict}
use Rattle.reference.specs.declared.checking.Verdict.TheVariants.{Schedule, NotEnabled, NotAnAction}
use Rattle.trace.specs.declared.fault.TraceError.TheVariants as lines
use Rattle.trace.specs.declared.fault.WriteFault.TheVariants.{WriteFailed}
use Rattle.commands.specs.declared.fault.CheckFault.{CheckFault}
use Rattle.commands.specs.declared.fault.CheckFault.TheVariants as fault
use Rattle.commands.specs.Judged.{IsJudged, IsUnjudged}
use Rattle.commands.specs.Refusals.{check_number, check_place}
use Rattle.commands.specs.Checks.{IsActionsReport, verdict_report}
use Rattle.commands.specs.Reports.{report_of}

module _ (plan : Plan) (bytes : List ℕ) (kept : Type 0) (wrote : List ℕ → Type 0) (cut : List ℕ → ℕ → Type 0) where
  -- a verdict whose line was written
  pub verdict_reported : (verdict : Verdict) → IsJudged plan bytes verdict wrote → IsActionsReport plan bytes kept wrote cut (verdict_report verdict)
  verdict_reported Schedule judged = record { verdict = Schedule; one = refl; judged = judged }
  verdict_reported (NotEnabled at) judged = record { verdict = NotEnabled at; one = λ e. cc; judged = judged }
  verdict_reported (NotAnAction at) judged = record { verdict = NotAnAction at; one = λ e. cc; judged = judged }

  -- a fault of the judge
  pub unjudged_reported : (failed : CheckFault) → IsUnjudged plan bytes kept cut failed → IsActionsReport plan bytes kept wrote cut (report_of (check_number failed) (check_place failed))
  unjudged_reported fault.NoMemory left = inl (refl, left)
  unjudged_reported (fault.Trace lines.NoMemory) left = inl (refl, left.1)
  unjudged_reported (fault.Trace (lines.BadLine line)) left = (record { error = lines.BadLine line; refused = left.0; judged = λ e. absurd (omega (arith, e)); number_is = refl; place_is = refl }, left.1)
  unjudged_reported (fault.Trace (lines.UnknownAction line)) left = (record { error = lines.UnknownAction line; refused = left.0; judged = λ e. absurd (omega (arith, e)); number_is = refl; place_is = refl }, left.1)
  unjudged_reported (fault.Trace (lines.NotInOrder line)) left = (record { error = lines.NotInOrder line; refused = left.0; judged = λ e. absurd (omega (arith, e)); number_is = refl; place_is = refl }, left.1)
  unjudged_reported (fault.Write (WriteFailed written)) left = inr (record { number_is = refl; written = written; stopped = record { verdict = left.verdict; one = tt; judged = left.cut } })
