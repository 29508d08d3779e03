-- What is said on standard error.
use Rattle.std.proofs.Common.{◌≡◌, ◌⊎◌, ◌∙◌, inl, inr, subst, sym, ℕ, List, refl}
use Rattle.std.specs.Prelude.{Option, true, false}
use Rattle.plans.specs.declared.plan.Plan.{Plan}
use Rattle.task_seed.specs.Turning.{System}
use Rattle.command_line.specs.declared.Asked.{Asked}
use Rattle.command_line.specs.declared.Asked.TheVariants as asked
use Rattle.trace.specs.declared.counted.Counted.{Counted}
use Rattle.commands.specs.declared.report.Report.{Report}
use Rattle.commands.specs.declared.report.Report.TheVariants.{Done, No, Driven, Ran, Explained, Refused, Fault, Misused}
use Rattle.commands.specs.Reports.{line_of}
use Rattle.service.specs.Reports.{IsReportOn}
use Rattle.service.specs.Told.{IsTold, IsWarned}
use Rattle.commands.specs.Checks.{IsActionsReport}
use Rattle.service.specs.Crews.{IsCrewReport}
use Rattle.commands.specs.Drives.{IsStepsReport}
use Rattle.commands.specs.FileReports.{IsSmallReport, form_for}
use Rattle.commands.specs.Parts.{IsSimulationReport}
use Rattle.commands.specs.Written.{IsSaid}
use Rattle.commands.proofs.FileReports.{no_plan_refused, not_misused, small_not_misused}
use Rattle.commands.proofs.DrawReports.{draw_not_misused}
use Rattle.commands.proofs.HuntReports.{hunt_not_misused}

module _ {E : Type 0} (known : E → Option (List ℕ)) where
  -- nothing is said before the line of a report on what was asked for
  pub asked_not_warned : (has : List ℕ → List ℕ → Type 0) (lacks : List ℕ → Type 0) (kept : Type 0) (wrote : List ℕ → Type 0) (cut : List ℕ → ℕ → Type 0) (old : Counted E) (what : Asked) (report : Report)
      → IsReportOn what has lacks kept wrote cut report → IsWarned known old old report
  asked_not_warned has lacks kept wrote cut old what Done on = refl
  asked_not_warned has lacks kept wrote cut old what No on = refl
  asked_not_warned has lacks kept wrote cut old what (Driven refused) on = refl
  asked_not_warned has lacks kept wrote cut old what (Ran stats) on = refl
  asked_not_warned has lacks kept wrote cut old what Explained on = refl
  asked_not_warned has lacks kept wrote cut old what (Refused number place) on = refl
  asked_not_warned has lacks kept wrote cut old what (Fault number) on = refl
  asked_not_warned has lacks kept wrote cut old (asked.Print source) Misused on = absurd on
  asked_not_warned has lacks kept wrote cut old (asked.Format source true) Misused on = absurd on.0
  asked_not_warned has lacks kept wrote cut old (asked.Format source false) Misused on = absurd on
  asked_not_warned has lacks kept wrote cut old (asked.Reference source options) Misused on = absurd (not_misused has lacks options source.now kept (λ plan system. IsSimulationReport plan system (form_for options) wrote cut) (λ plan system no. no) on)
  asked_not_warned has lacks kept wrote cut old (asked.Run source options crew) Misused on = absurd (not_misused has lacks options source.now kept (λ plan system. IsCrewReport plan system (form_for options) crew.stats kept wrote cut) (λ plan system no. no) on)
  asked_not_warned has lacks kept wrote cut old (asked.Check source trace) Misused (inl none) = absurd (no_plan_refused (has source.now) (lacks source.now) Misused none.0)
  asked_not_warned has lacks kept wrote cut old (asked.Check source trace) Misused (inr s) =
      let plan = s.judged.plan in
      absurd (small_not_misused (has trace.now) (lacks trace.now) kept (λ bytes. IsActionsReport plan bytes kept wrote cut) (λ bytes no. no) s.judged.holds)
  asked_not_warned has lacks kept wrote cut old (asked.Drive source steps options) Misused on =
      let ends : Plan → System → List ℕ → Report → Type 0 = λ plan system bytes. IsStepsReport plan system (form_for options) bytes kept wrote cut in
      absurd (not_misused has lacks options source.now kept (λ plan system. IsSmallReport (has steps.now) (lacks steps.now) kept (ends plan system))
      (λ plan system. small_not_misused (has steps.now) (lacks steps.now) kept (ends plan system) (λ bytes no. no)) on)
  asked_not_warned has lacks kept wrote cut old (asked.Explain source table steps actions) Misused (inl story) = absurd story.1
  asked_not_warned has lacks kept wrote cut old (asked.Explain source table steps actions) Misused (inr telling) = absurd telling.1
  asked_not_warned has lacks kept wrote cut old (asked.Hunt source action hunting) Misused on = absurd (hunt_not_misused (has source.now) (lacks source.now) action.now hunting kept wrote cut on)
  asked_not_warned has lacks kept wrote cut old (asked.Draw source options ticks) Misused on = absurd (draw_not_misused has lacks options source.now ticks kept wrote cut on)

  -- what is said before the line, and the line, are what is said in all
  pub told : (old between new : Counted E) (report : Report) → IsWarned known old between report → IsSaid known between new (line_of report)
      → ((report ≡ Done) ⊎ ((report ≡ No) ⊎ ((report ≡ Misused) ⊎ (report ≡ Explained))) → new ≡ between) → IsTold known old new report
  told old between new Done warned said quiet = quiet (inl refl) ∙ warned
  told old between new No warned said quiet = quiet (inr (inl refl)) ∙ warned
  told old between new (Driven refused) warned said quiet = subst (λ (c : Counted E). IsSaid known c new (line_of (Driven refused))) warned said
  told old between new (Ran stats) warned said quiet = subst (λ (c : Counted E). IsSaid known c new (line_of (Ran stats))) warned said
  told old between new Explained warned said quiet = quiet (inr (inr (inr refl))) ∙ warned
  told old between new (Refused number place) warned said quiet = subst (λ (c : Counted E). IsSaid known c new (line_of (Refused number place))) warned said
  told old between new (Fault number) warned said quiet = subst (λ (c : Counted E). IsSaid known c new (line_of (Fault number))) warned said
  told old between new Misused warned said quiet = record { text = warned.text; some = warned.some; became = subst (λ (c : Counted E). IsSaid known old c warned.text) (sym (quiet (inr (inr (inl refl))))) warned.became }
