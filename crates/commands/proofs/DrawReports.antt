-- Reports on diagrams.
use Rattle.std.proofs.Common.{◌≡◌, inl, inr, ℕ, true, List, refl, subst}
use Rattle.std.specs.Prelude.{None}
use Rattle.plans.specs.declared.plan.Plan.{Plan}
use Rattle.task_seed.specs.Turning.{System}
use Rattle.trace.specs.declared.fault.WriteFault.TheVariants.{WriteFailed}
use Rattle.command_line.specs.declared.ticks.Ticks.{Ticks}
use Rattle.command_line.specs.declared.Options.{Options}
use Rattle.drawing.specs.declared.fault.DrawFault.{DrawFault}
use Rattle.drawing.specs.declared.fault.DrawFault.TheVariants as fault
use Rattle.drawing.specs.declared.window.Window.{Window}
use Rattle.drawing.specs.Drawn.{IsDrawn, IsUndrawn, draw_number}
use Rattle.trace.specs.Puts.{written_of}
use Rattle.commands.specs.declared.report.Report.{Report}
use Rattle.commands.specs.declared.report.Report.TheVariants.{Done, No, Driven, Ran, Explained, Refused, Fault, Misused}
use Rattle.commands.specs.Drawing.{AreNames, IsDrawEnd, IsDrawFileReport, IsDrawReport, IsNamedDrawing, SourceMeans, SourceMeansNone, window_of}
use Rattle.commands.specs.FileReports.{table_of}
use Rattle.commands.specs.Reports.{is_served, report_of}
use Rattle.commands.proofs.FileReports.{IsSomeRefusal, engine_again, no_system_refused, some_refusal, unserved}

module _ (plan : Plan) (s : System) (ticks : Ticks) (kept : Type 0) (wrote : List ℕ → Type 0) (cut : List ℕ → ℕ → Type 0) (source : List ℕ) where
  -- the diagram was written
  pub drawn_reported : (names : List (List ℕ)) → AreNames source names → (window : Window) → window ≡ window_of ticks → IsDrawn plan s names window wrote → IsNamedDrawing plan s ticks source wrote
  drawn_reported names are window same drawn = record { names = names; are = are; drawn = subst (λ w. IsDrawn plan s names w wrote) same drawn }

  -- the report on a diagram that isn't written to its end
  pub undrawn_reported : (names : List (List ℕ)) → AreNames source names → (e : DrawFault)
      → (window : Window) → window ≡ window_of ticks → IsUndrawn plan s names window kept (λ text failed. cut text (written_of failed)) e
      → IsDrawEnd plan s ticks kept wrote cut source (report_of (draw_number e) None)
  undrawn_reported names are fault.NoMemory window same is = inl (refl, is)
  undrawn_reported names are (fault.Write (WriteFailed written)) window same is =
      inr (record { number_is = refl; written = written; stopped = record { names = names; are = are; drawn = subst (λ w. IsDrawn plan s names w (λ text. cut text written)) same is } })

-- a diagram that was written is written still
draw_end_again : (wrote again : List ℕ → Type 0) (stays : (text : List ℕ) → wrote text → again text) (plan : Plan) (s : System) (ticks : Ticks) (kept still : Type 0) (cut later : List ℕ → ℕ → Type 0) (source : List ℕ)
    (report : Report) → is_served report ≡ true → IsDrawEnd plan s ticks kept wrote cut source report → IsDrawEnd plan s ticks still again later source report
draw_end_again wrote again stays plan s ticks kept still cut later source Done served p =
    let d = p.drawn in record { names = p.names; are = p.are; drawn = record { turns = d.turns; are = d.are; became = stays _ d.became } }
draw_end_again wrote again stays plan s ticks kept still cut later source No served p = p
draw_end_again wrote again stays plan s ticks kept still cut later source (Driven refused) served p = p
draw_end_again wrote again stays plan s ticks kept still cut later source (Ran stats) served p = p
draw_end_again wrote again stays plan s ticks kept still cut later source Explained served p = p
draw_end_again wrote again stays plan s ticks kept still cut later source (Refused number place) served p = p
draw_end_again wrote again stays plan s ticks kept still cut later source (Fault number) served p = cc
draw_end_again wrote again stays plan s ticks kept still cut later source Misused served p = p

module _ (has : List ℕ → List ℕ → Type 0) (lacks : List ℕ → Type 0) (options : Options) where
  -- a source that means no system is refused, or something is lacking
  unmeant_refused : (source : List ℕ) (report : Report) → SourceMeansNone has lacks source options report → IsSomeRefusal report
  unmeant_refused source report (inl none) = some_refusal _ _ report none
  unmeant_refused source report (inr s) = no_system_refused has lacks options _ (table_of options) report s.holds

  source_not_misused : (source : List ℕ) (ticks : Ticks) (kept : Type 0) (wrote : List ℕ → Type 0) (cut : List ℕ → ℕ → Type 0) → IsDrawReport has lacks source options ticks kept wrote cut Misused → ⊥
  source_not_misused source ticks kept wrote cut (inl n) = unmeant_refused source Misused n.0
  source_not_misused source ticks kept wrote cut (inr m) = m.holds

  -- what is asked of a diagram isn't a misuse of words
  pub draw_not_misused : (name : List ℕ) (ticks : Ticks) (kept : Type 0) (wrote : List ℕ → Type 0) (cut : List ℕ → ℕ → Type 0) → IsDrawFileReport has lacks name options ticks kept wrote cut Misused → ⊥
  draw_not_misused name ticks kept wrote cut (inl n) = n.0
  draw_not_misused name ticks kept wrote cut (inr f) = source_not_misused f.front ticks kept wrote cut f.judged

  module _ (wrote again : List ℕ → Type 0) (stays : (text : List ℕ) → wrote text → again text) (ticks : Ticks) (kept still : Type 0) (cut later : List ℕ → ℕ → Type 0) (report : Report) (served : is_served report ≡ true) where
    source_again : (source : List ℕ) → IsDrawReport has lacks source options ticks kept wrote cut report → IsDrawReport has lacks source options ticks still again later report
    source_again source = engine_again (SourceMeans has source options) (SourceMeansNone has lacks source options) kept still
        (λ plan system. IsDrawEnd plan system ticks kept wrote cut source) (λ plan system. IsDrawEnd plan system ticks still again later source) report served (unmeant_refused source report)
        (λ plan system. draw_end_again wrote again stays plan system ticks kept still cut later source report served)

    pub draw_again : (name : List ℕ) → IsDrawFileReport has lacks name options ticks kept wrote cut report → IsDrawFileReport has lacks name options ticks still again later report
    draw_again name (inl n) = absurd (unserved report served (some_refusal _ _ report n.0))
    draw_again name (inr f) = inr (record { front = f.front; is = f.is; judged = source_again f.front f.judged })
