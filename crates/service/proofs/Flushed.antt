-- A report that all is done stays one where the output is flushed after it.
use Rattle.std.proofs.Common.{◌≡◌, ◌⊎◌, inl, inr, ℕ, Bool, true, false, Option, None, Some, List, [], refl, subst, sym, ◌∙◌}
use Rattle.std.specs.Io.KnownBytes.{Appends, Keeps}
use Rattle.plans.specs.declared.plan.Plan.{Plan}
use Rattle.reference.specs.declared.checking.Verdict.{Verdict}
use Rattle.task_seed.specs.Turning.{System}
use Rattle.trace.specs.declared.counted.Counted.{Counted}
use Rattle.trace.specs.declared.texts.Form.{Form}
use Rattle.trace.specs.Counts.{writer_of}
use Rattle.trace.specs.Headed.{Behind}
use Rattle.trace.specs.Went.{IsStopped, IsWritten}
use Rattle.command_line.specs.declared.Asked.{Asked}
use Rattle.command_line.specs.declared.Asked.TheVariants as asked
use Rattle.command_line.specs.declared.Options.{Options}
use Rattle.workers.specs.Runs.{IsWhole}
use Rattle.commands.specs.declared.report.Report.{Report}
use Rattle.commands.specs.declared.report.Report.TheVariants.{Done, No, Driven, Ran, Explained, Refused, Fault, Misused}
use Rattle.commands.specs.Checks.{IsActionsReport, IsNo, IsVerdictOn, IsYes}
use Rattle.service.specs.Crews.{IsCrewReport, IsRunFileReport}
use Rattle.commands.specs.Drives.{IsStepsReport}
use Rattle.commands.specs.Explained.{AllTold, IsExplainReport, IsStoryReport, IsTellingReport, LacksAny, named}
use Rattle.commands.specs.FileReports.{FilesMean, FilesMeanNone, IsCheckFileReport, IsDriveFileReport, IsSimulateFileReport, IsSmallReport, form_for}
use Rattle.service.specs.Flushed.{IsFlushed, IsFlushedWhere}
use Rattle.commands.specs.Parts.{IsSimulationReport}
use Rattle.commands.specs.Reports.{is_served, IsPrintReport}
use Rattle.service.specs.Reports.{IsFlushedReport, IsFormatReportOn, IsInformed, IsReport, IsReportOn, IsUnserved}
use Rattle.commands.specs.Simulations.{IsEngineReport}
use Rattle.service.specs.Told.{IsWarned}
use Rattle.commands.proofs.DrawReports.{draw_again}
use Rattle.commands.proofs.HuntReports.{hunt_again}
use Rattle.commands.proofs.FileReports.{engine_again, no_plan_refused, none_refused, some_refusal, unserved}

module _ (wrote again : List ℕ → Type 0) (stays : (text : List ℕ) → wrote text → again text) (kept still : Type 0) (cut later : List ℕ → ℕ → Type 0) where
  print_again : (has : List ℕ → Type 0) (lacks : Type 0) (report : Report) → is_served report ≡ true → IsPrintReport has lacks kept wrote cut report → IsPrintReport has lacks still again later report
  print_again has lacks Done s p =
      let j = p.judged in
      record { source = p.source; is = p.is; judged = record { size = j.size; tree = j.tree; spelled = j.spelled; readable = j.readable; became = stays _ j.became } }
  print_again has lacks No s p = p
  print_again has lacks (Driven refused) s p = p
  print_again has lacks (Ran stats) s p = p
  print_again has lacks Explained s p = p
  print_again has lacks (Refused number place) s p = cc
  print_again has lacks (Fault number) s p = cc
  print_again has lacks Misused s p = cc

  format_again : (check : Bool) (has : List ℕ → Type 0) (lacks : Type 0) (report : Report) → is_served report ≡ true → IsFormatReportOn check has lacks kept wrote cut report → IsFormatReportOn check has lacks still again later report
  format_again true has lacks report s p = (p.0, stays [] p.1)
  format_again false has lacks Done s p =
      let j = p.judged in
      record { source = p.source; is = p.is; judged = record { text = j.text; is = j.is; became = stays _ j.became } }
  format_again false has lacks No s p = p
  format_again false has lacks (Driven refused) s p = p
  format_again false has lacks (Ran stats) s p = p
  format_again false has lacks Explained s p = p
  format_again false has lacks (Refused number place) s p = cc
  format_again false has lacks (Fault number) s p = cc
  format_again false has lacks Misused s p = p

  simulation_again : (plan : Plan) (system : System) (form : Form) (report : Report) → is_served report ≡ true → IsSimulationReport plan system form wrote cut report → IsSimulationReport plan system form again later report
  simulation_again plan system form Done s p = record { turns = p.turns; are = p.are; became = stays _ p.became }
  simulation_again plan system form No s p = p
  simulation_again plan system form (Driven refused) s p = p
  simulation_again plan system form (Ran stats) s p = p
  simulation_again plan system form Explained s p = p
  simulation_again plan system form (Refused number place) s p = cc
  simulation_again plan system form (Fault number) s p = cc
  simulation_again plan system form Misused s p = p

  whole_again : (plan : Plan) (system : System) (form : Form) (count : ℕ) → IsWhole plan system form.lines (Behind form.head wrote) count → IsWhole plan system form.lines (Behind form.head again) count
  whole_again plan system form count w = record { turns = w.turns; are = w.are; count_is = w.count_is; became = stays _ w.became }

  crew_again : (plan : Plan) (system : System) (form : Form) (stats : Bool) (report : Report) → is_served report ≡ true → IsCrewReport plan system form stats kept wrote cut report → IsCrewReport plan system form stats still again later report
  crew_again plan system form stats Done s p = (p.0, record { count = p.1.count; whole = whole_again plan system form p.1.count p.1.whole })
  crew_again plan system form stats No s p = p
  crew_again plan system form stats (Driven refused) s p = p
  crew_again plan system form stats (Ran counts) s p = (p.0, whole_again plan system form counts.turns p.1)
  crew_again plan system form stats Explained s p = p
  crew_again plan system form stats (Refused number place) s p = cc
  crew_again plan system form stats (Fault number) s p = cc
  crew_again plan system form stats Misused s p = cc

  steps_again : (plan : Plan) (system : System) (form : Form) (bytes : List ℕ) (report : Report) → is_served report ≡ true → IsStepsReport plan system form bytes kept wrote cut report → IsStepsReport plan system form bytes still again later report
  steps_again plan system form bytes Done s p = p
  steps_again plan system form bytes No s p = p
  steps_again plan system form bytes (Driven refused) s p =
      let d = p.driven in
      record {
        steps = p.steps;
        given = p.given;
        driven = record { replies = d.replies; world = d.world; runs = d.runs; refused_are = d.refused_are; turns = d.turns; committed = d.committed; beginning = d.beginning; became = stays _ d.became };
      }
  steps_again plan system form bytes (Ran stats) s p = p
  steps_again plan system form bytes Explained s p = p
  steps_again plan system form bytes (Refused number place) s p = cc
  steps_again plan system form bytes (Fault number) s p = cc
  steps_again plan system form bytes Misused s p = p

  verdict_again : (IsOne : Verdict → Type 0) (plan : Plan) (bytes : List ℕ) → IsVerdictOn IsOne wrote plan bytes → IsVerdictOn IsOne again plan bytes
  verdict_again IsOne plan bytes v =
      let j = v.judged in
      record { verdict = v.verdict; one = v.one; judged = record { actions = j.actions; given = j.given; judged = j.judged; became = stays _ j.became } }

  actions_again : (plan : Plan) (bytes : List ℕ) (report : Report) → is_served report ≡ true → IsActionsReport plan bytes kept wrote cut report → IsActionsReport plan bytes still again later report
  actions_again plan bytes Done s p = verdict_again IsYes plan bytes p
  actions_again plan bytes No s p = verdict_again IsNo plan bytes p
  actions_again plan bytes (Driven refused) s p = p
  actions_again plan bytes (Ran stats) s p = p
  actions_again plan bytes Explained s p = p
  actions_again plan bytes (Refused number place) s p = cc
  actions_again plan bytes (Fault number) s p = cc
  actions_again plan bytes Misused s p = p

  small_again : (has : List ℕ → Type 0) (lacks : Type 0) (Ends Later : List ℕ → Report → Type 0) (report : Report) → is_served report ≡ true
      → ((bytes : List ℕ) → Ends bytes report → Later bytes report) → IsSmallReport has lacks kept Ends report → IsSmallReport has lacks still Later report
  small_again has lacks Ends Later report s ends (inl n) = absurd (unserved report s (some_refusal _ _ report n.0))
  small_again has lacks Ends Later report s ends (inr h) = inr (record { bytes = h.bytes; is = h.is; small = h.small; judged = ends h.bytes h.judged })

  module _ (has : List ℕ → List ℕ → Type 0) (lacks : List ℕ → Type 0) (source : List ℕ) (report : Report) (s : is_served report ≡ true) where
    meant_again : (options : Options) (Ends Later : Plan → System → Report → Type 0) → ((plan : Plan) (system : System) → Ends plan system report → Later plan system report)
        → IsEngineReport (FilesMean has source options) (FilesMeanNone has lacks source options) kept Ends report → IsEngineReport (FilesMean has source options) (FilesMeanNone has lacks source options) still Later report
    meant_again options Ends Later = engine_again (FilesMean has source options) (FilesMeanNone has lacks source options) kept still Ends Later report s (none_refused has lacks options source report)

    simulate_again : (options : Options) → IsSimulateFileReport has lacks source options kept wrote cut report → IsSimulateFileReport has lacks source options still again later report
    simulate_again options = meant_again options (λ plan system. IsSimulationReport plan system (form_for options) wrote cut) (λ plan system. IsSimulationReport plan system (form_for options) again later)
        (λ plan system. simulation_again plan system (form_for options) report s)

    run_again : (options : Options) (stats : Bool) → IsRunFileReport has lacks source options stats kept wrote cut report → IsRunFileReport has lacks source options stats still again later report
    run_again options stats = meant_again options (λ plan system. IsCrewReport plan system (form_for options) stats kept wrote cut) (λ plan system. IsCrewReport plan system (form_for options) stats still again later)
        (λ plan system. crew_again plan system (form_for options) stats report s)

    module _ (options : Options) (steps : List ℕ) where
      abbrev before : Plan → System → List ℕ → Report → Type 0
      before plan system bytes = IsStepsReport plan system (form_for options) bytes kept wrote cut

      abbrev after : Plan → System → List ℕ → Report → Type 0
      after plan system bytes = IsStepsReport plan system (form_for options) bytes still again later

      drive_again : IsDriveFileReport has lacks source steps options kept wrote cut report → IsDriveFileReport has lacks source steps options still again later report
      drive_again =
          meant_again options (λ plan system. IsSmallReport (has steps) (lacks steps) kept (before plan system)) (λ plan system. IsSmallReport (has steps) (lacks steps) still (after plan system))
          (λ plan system. small_again (has steps) (lacks steps) (before plan system) (after plan system) report s (λ bytes. steps_again plan system (form_for options) bytes report s))

    check_again : (trace : List ℕ) → IsCheckFileReport has lacks source trace kept wrote cut report → IsCheckFileReport has lacks source trace still again later report
    check_again trace (inl n) = absurd (unserved report s (no_plan_refused (has source) (lacks source) report n.0))
    check_again trace (inr p) =
        let j = p.judged in
        inr (record {
          source = p.source;
          is = p.is;
          judged = record { plan = j.plan; composed = j.composed; holds = small_again (has trace) (lacks trace) (λ bytes. IsActionsReport j.plan bytes kept wrote cut) (λ bytes. IsActionsReport j.plan bytes still again later) report s (λ bytes. actions_again j.plan bytes report s) j.holds };
        })

  story_again : (report : Report) → is_served report ≡ true → IsStoryReport wrote cut report → IsStoryReport again later report
  story_again Done s p = record { text = p.text; some = p.some; became = stays p.text p.became }
  story_again No s p = p
  story_again (Driven refused) s p = p
  story_again (Ran stats) s p = p
  story_again Explained s p = record { text = p.text; some = p.some; became = stays p.text p.became }
  story_again (Refused number place) s p = cc
  story_again (Fault number) s p = cc
  story_again Misused s p = p

  telling_again : (Told : Option (List ℕ) → Type 0) (Lacks : ℕ → Type 0) (report : Report) → is_served report ≡ true → IsTellingReport Told Lacks kept wrote cut report → IsTellingReport Told Lacks still again later report
  telling_again Told Lacks Done s p = record { is = p.is; became = stays _ p.became }
  telling_again Told Lacks No s p = p
  telling_again Told Lacks (Driven refused) s p = p
  telling_again Told Lacks (Ran stats) s p = p
  telling_again Told Lacks Explained s p = record { text = p.text; told = record { is = p.told.is; became = stays _ p.told.became } }
  telling_again Told Lacks (Refused number place) s p = cc
  telling_again Told Lacks (Fault number) s p = cc
  telling_again Told Lacks Misused s p = p

  explain_again : (has : List ℕ → List ℕ → Type 0) (lacks : List ℕ → Type 0) (source : List ℕ) (table steps actions : Option (List ℕ)) (report : Report) → is_served report ≡ true
      → IsExplainReport has lacks source table steps actions kept wrote cut report → IsExplainReport has lacks source table steps actions still again later report
  explain_again has lacks source table steps actions report s (inl p) = inl (p.0, story_again report s p.1)
  explain_again has lacks source table steps actions report s (inr p) = inr (p.0, telling_again (AllTold has source table steps actions) (LacksAny has lacks source table steps actions) report s p.1)

  informed_again : (words : List (List ℕ)) → IsInformed words wrote → IsInformed words again
  informed_again words (inl h) = inl (record { asked = h.asked; went = record { text = h.went.text; some = h.went.some; became = stays h.went.text h.went.became } })
  informed_again words (inr v) = inr (record { asked = v.asked; went = stays _ v.went })

  unserved_again : (words : List (List ℕ)) (report : Report) → is_served report ≡ true → IsUnserved words kept wrote cut report → IsUnserved words still again later report
  unserved_again words Done s p = informed_again words p
  unserved_again words No s p = p
  unserved_again words (Driven refused) s p = p
  unserved_again words (Ran stats) s p = p
  unserved_again words Explained s p = p
  unserved_again words (Refused number place) s p = cc
  unserved_again words (Fault number) s p = cc
  unserved_again words Misused s p = cc

  on_again : (what : Asked) (has : List ℕ → List ℕ → Type 0) (lacks : List ℕ → Type 0) (report : Report) → is_served report ≡ true → IsReportOn what has lacks kept wrote cut report → IsReportOn what has lacks still again later report
  on_again (asked.Print source) has lacks report s = print_again (has source.now) (lacks source.now) report s
  on_again (asked.Format source check) has lacks report s = format_again check (has source.now) (lacks source.now) report s
  on_again (asked.Reference source options) has lacks report s = simulate_again has lacks source.now report s options
  on_again (asked.Run source options crew) has lacks report s = run_again has lacks source.now report s options crew.stats
  on_again (asked.Check source trace) has lacks report s = check_again has lacks source.now report s trace.now
  on_again (asked.Drive source steps options) has lacks report s = drive_again has lacks source.now report s options steps.now
  on_again (asked.Explain source table steps actions) has lacks report s = explain_again has lacks source.now (named table) (named steps) (named actions) report s
  on_again (asked.Hunt source action hunting) has lacks report s = hunt_again wrote again stays kept still cut later (has source.now) (lacks source.now) action.now hunting report s
  on_again (asked.Draw source options ticks) has lacks report s = draw_again has lacks options wrote again stays ticks kept still cut later report s source.now

  report_again : (words : List (List ℕ)) (has : List ℕ → List ℕ → Type 0) (lacks : List ℕ → Type 0) (report : Report) → is_served report ≡ true → IsReport words has lacks kept wrote cut report → IsReport words has lacks still again later report
  report_again words has lacks report s (inl p) = inl (record { what = p.what; is = p.is; on = on_again p.what has lacks report s p.on })
  report_again words has lacks report s (inr p) = inr (unserved_again words report s p)

appends_still : (a b c : Option (List ℕ)) (text : List ℕ) → Appends a b text → Keeps b c → Appends a c text
appends_still None b c text p k = tt
appends_still (Some x) None c text p k = absurd p
appends_still (Some x) (Some y) None text p k = absurd k
appends_still (Some x) (Some y) (Some z) text p k = k ∙ p

module _ {W : Type 0} (known : W → Option (List ℕ)) where
  written_still : (old mid new : Counted W) (text : List ℕ) → IsFlushed known mid new → IsWritten known old mid text → IsWritten known old new text
  written_still old mid new text f w =
      record { bytes = appends_still (known (writer_of old)) (known (writer_of mid)) (known (writer_of new)) text w.bytes f.bytes; failures = f.failures ∙ w.failures }

  pub flushed_report : (words : List (List ℕ)) (has : List ℕ → List ℕ → Type 0) (lacks : List ℕ → Type 0) (old mid new : Counted W) (report result : Report) → (result ≡ report) ⊎ ((is_served report ≡ true) × (result ≡ Fault 60))
      → IsFlushedWhere known (is_served report) mid new → IsReport words has lacks (mid ≡ old) (IsWritten known old mid) (IsStopped known old mid) report
      → IsFlushedReport words has lacks (new ≡ old) (IsWritten known old new) (IsStopped known old new) result
  flushed_report words has lacks old mid new report result answer flushed on = go (is_served report) refl flushed answer
    where
      Now : Counted W → Report → Type 0
      Now x = IsReport words has lacks (x ≡ old) (IsWritten known old x) (IsStopped known old x)

      go : (b : Bool) → is_served report ≡ b → IsFlushedWhere known b mid new → (result ≡ report) ⊎ ((is_served report ≡ true) × (result ≡ Fault 60)) → IsFlushedReport words has lacks (new ≡ old) (IsWritten known old new) (IsStopped known old new) result
      go true s f (inl same) = inl (subst (Now new) (sym same) (report_again (IsWritten known old mid) (IsWritten known old new) (λ text. written_still old mid new text f) (mid ≡ old) (new ≡ old) (IsStopped known old mid) (IsStopped known old new) words has lacks report s on))
      go true s f (inr failed) = inr (record {
        is = failed.1;
        served = report;
        done = s;
        on = report_again (IsWritten known old mid) (IsWritten known old new) (λ text. written_still old mid new text f) (mid ≡ old) (new ≡ old) (IsStopped known old mid) (IsStopped known old new) words has lacks report s on;
      })
      go false s f (inl same) = inl (subst (Now new) (sym same) (subst (λ x. Now x report) (sym f) on))
      go false s f (inr failed) = let none : false ≡ true = sym s ∙ failed.0 in cc

-- what was said before the flush
pub flushed_warned : {E : Type 0} (known : E → Option (List ℕ)) (old new : Counted E) (report result : Report) → (result ≡ report) ⊎ ((is_served report ≡ true) × (result ≡ Fault 60)) → IsWarned known old new report → IsWarned known old new result
flushed_warned known old new report result (inl same) warned = subst (IsWarned known old new) (sym same) warned
flushed_warned known old new report result (inr failed) warned = subst (IsWarned known old new) (sym failed.1) (quiet report failed.0 warned)
  where
    quiet : (report : Report) → is_served report ≡ true → IsWarned known old new report → new ≡ old
    quiet Done s w = w
    quiet No s w = w
    quiet (Driven refused) s w = w
    quiet (Ran stats) s w = w
    quiet Explained s w = w
    quiet (Refused number place) s w = cc
    quiet (Fault number) s w = cc
    quiet Misused s w = cc
