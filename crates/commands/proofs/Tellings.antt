-- Reports of `explain`, put together.
use Rattle.std.proofs.Common.{◌≡◌, ◌≢◌, ◌<◌, ◌≤◌, inl, inr, ℕ, List, length, take, refl, subst, sym, arith}
use Rattle.std.specs.Prelude.{Option, None, Some, codes}
use Rattle.plans.specs.declared.plan.Plan.{Plan}
use Rattle.compose.specs.declared.source_error.SourceError.{SourceError}
use Rattle.compose.specs.Composed.{IsComposed, IsRefused}
use Rattle.compose.specs.Refusals.{source_number}
use Rattle.explain.specs.Explanations.{IsExplanation, IsLineExplanation}
use Rattle.trace.specs.declared.fault.TraceError.{TraceError}
use Rattle.trace.specs.declared.fault.TraceError.TheVariants as lines
use Rattle.trace.specs.declared.counted.Counted.{Counted}
use Rattle.trace.specs.declared.fault.WriteFault.{WriteFault}
use Rattle.trace.specs.declared.fault.WriteFault.TheVariants.{WriteFailed}
use Rattle.trace.specs.Puts.{written_of}
use Rattle.trace.specs.Refusals.{fault_number, trace_number, trace_place}
use Rattle.trace.specs.StepFile.{IsStepsFault}
use Rattle.trace.specs.Versions.{HasFault}
use Rattle.trace.specs.Went.{IsStopped, IsWritten}
use Rattle.commands.specs.declared.report.Report.{Report}
use Rattle.commands.specs.declared.report.Report.TheVariants.{Done, No, Driven, Ran, Explained, Refused, Fault, Misused}
use Rattle.commands.specs.Explained.{AllTold, AreActions, AreBadActions, AreBadSteps, AreSteps, FilesTold, IsBadTable, IsJudged, IsStoryReport, IsTable, IsTellingReport, LacksAny, LaterTold, TellsReport}
use Rattle.commands.specs.Parts.{IsMemory, IsRefusal}
use Rattle.commands.specs.Reading.{IsReadOf}
use Rattle.commands.specs.Reports.{report_of}
use Rattle.commands.specs.Unread.{IsUnread, most_bytes}

module _ (plan : Plan) (bytes : List ℕ) where
  -- a line is no step
  pub bad_steps : (e : TraceError) → IsStepsFault plan bytes e → IsRefusal (AreBadSteps plan bytes) IsMemory (report_of (trace_number e) (trace_place e))
  bad_steps lines.NoMemory refused = refl
  bad_steps (lines.BadLine line) refused = record { error = lines.BadLine line; refused = refused; judged = λ e. absurd (omega (arith, e)); number_is = refl; place_is = refl }
  bad_steps (lines.UnknownAction line) refused = record { error = lines.UnknownAction line; refused = refused; judged = λ e. absurd (omega (arith, e)); number_is = refl; place_is = refl }
  bad_steps (lines.NotInOrder line) refused = absurd refused

  -- a line is no action
  pub bad_actions : (e : TraceError) → HasFault plan bytes e → IsRefusal (AreBadActions plan bytes) IsMemory (report_of (trace_number e) (trace_place e))
  bad_actions lines.NoMemory refused = refl
  bad_actions (lines.BadLine line) refused = record { error = lines.BadLine line; refused = refused; judged = λ e. absurd (omega (arith, e)); number_is = refl; place_is = refl }
  bad_actions (lines.UnknownAction line) refused = record { error = lines.UnknownAction line; refused = refused; judged = λ e. absurd (omega (arith, e)); number_is = refl; place_is = refl }
  bad_actions (lines.NotInOrder line) refused = record { error = lines.NotInOrder line; refused = refused; judged = λ e. absurd (omega (arith, e)); number_is = refl; place_is = refl }

-- what was read of a source file
module _ (has : List ℕ → List ℕ → Type 0) (lacks : List ℕ → Type 0) (source : List ℕ) (table steps actions : Option (List ℕ)) where
  module _ (read : List ℕ) (is : IsReadOf (has source) 65537 read) where
    -- the source is refused, and that is told
    pub source_told : (e : SourceError) → IsRefused read e → ((all : List ℕ) (e : SourceError) → IsRefused (take 65537 all) e → IsRefused all e) → (text : List ℕ)
        → source_number e ≢ 1 → IsExplanation source read e text → AllTold has source table steps actions (Some text)
    source_told e refused front text judged told = record {
      source = is.all;
      is = is.is;
      judged = inl (record {
        error = e;
        refused = front is.all e (subst (λ l. IsRefused l e) is.front refused);
        judged = judged;
        told = subst (λ l. IsExplanation source l e text) is.front told;
      });
    }

    -- the source is accepted, and the further files are told of
    pub files_told : (plan : Plan) → IsComposed read plan → ((all : List ℕ) (p : Plan) → IsComposed (take 65537 all) p → IsComposed all p) → (told : Option (List ℕ))
        → FilesTold has plan table steps actions told → AllTold has source table steps actions told
    files_told plan composed front told is_told = record {
      source = is.all;
      is = is.is;
      judged = inr (record { plan = plan; composed = front is.all plan (subst (λ l. IsComposed l plan) is.front composed); holds = is_told });
    }

  pub memory_lacks : (number : ℕ) → IsMemory number → LacksAny has lacks source table steps actions number
  memory_lacks number one = inl (inl one)

  pub unread_lacks : (number : ℕ) → IsUnread (lacks source) number → LacksAny has lacks source table steps actions number
  unread_lacks number unread = inl unread

-- what is told of further files, put together
module _ (has : List ℕ → List ℕ → Type 0) (plan : Plan) (table steps actions : Option (List ℕ)) where
  -- the steps are accepted, and this is told of the actions
  pub actions_told : IsJudged has (AreSteps plan) (AreBadSteps plan) steps None → (told : Option (List ℕ)) → IsJudged has (AreActions plan) (AreBadActions plan) actions told → LaterTold has plan steps actions told
  actions_told good None later = (good, later)
  actions_told good (Some text) later = inr (good, later)

  -- the table is accepted, and this is told of the files behind it
  pub later_told : IsJudged has (IsTable plan) (IsBadTable plan) table None → (told : Option (List ℕ)) → LaterTold has plan steps actions told → FilesTold has plan table steps actions told
  later_told good None later = (good, later)
  later_told good (Some text) later = inr (good, later)

-- what was written of what is told, or not to its end
module _ {W : Type 0} (known : W → Option (List ℕ)) (old new : Counted W) (Told : Option (List ℕ) → Type 0) (Lacks : ℕ → Type 0) where
  abbrev On : Report → Type 0
  On = IsTellingReport Told Lacks (new ≡ old) (IsWritten known old new) (IsStopped known old new)

  pub text_written : (text seen : List ℕ) → seen ≡ text → Told (Some text) → IsWritten known old new seen → On Explained
  text_written text seen same is went = record { text = text; told = record { is = is; became = subst (IsWritten known old new) same went } }

  pub text_cut : (text seen : List ℕ) → seen ≡ text → Told (Some text) → (failed : WriteFault) → IsStopped known old new seen (written_of failed) → On (Fault (fault_number failed))
  text_cut text seen same is (WriteFailed n) stopped = inr (record { number_is = refl; told = Some text; written = n; stopped = record { is = is; became = subst (λ l. IsStopped known old new l n) same stopped } })

  pub calm_cut : Told None → (failed : WriteFault) → IsStopped known old new (codes "no fault\n") (written_of failed) → On (Fault (fault_number failed))
  calm_cut is (WriteFailed n) stopped = inr (record { number_is = refl; told = None; written = n; stopped = record { is = is; became = stopped } })

-- a story was cut
pub story_cut : {W : Type 0} (known : W → Option (List ℕ)) (old new : Counted W) (text : List ℕ) → 0 < length text → (failed : WriteFault) → IsStopped known old new text (written_of failed)
    → IsStoryReport (IsWritten known old new) (IsStopped known old new) (Fault (fault_number failed))
story_cut known old new text some (WriteFailed n) stopped = record { number_is = refl; written = n; stopped = record { text = text; some = some; became = stopped } }

-- what is told of a file of lines that is refused
pub tells_line : (has : List ℕ → List ℕ → Type 0) (IsGood : List ℕ → Type 0) (IsBad : List ℕ → ℕ → Option ℕ → Type 0) (name bytes seen : List ℕ) → has name bytes → length bytes ≤ most_bytes → seen ≡ bytes
    → (report : Report) → IsRefusal (IsBad bytes) IsMemory report → (told : Option (List ℕ)) → TellsReport name seen report told → IsJudged has IsGood IsBad (Some name) told
tells_line has IsGood IsBad name bytes seen is small same report refused told t =
    subst (IsJudged has IsGood IsBad (Some name)) (sym t.told_is)
    (record {
      bytes = bytes;
      is = is;
      small = small;
      judged = record {
        number = t.number;
        place = t.place;
        bad = subst (IsRefusal (IsBad bytes) IsMemory) t.report_is refused;
        told = subst (λ l. IsLineExplanation name l t.number t.place t.text) same t.is;
      };
    })

-- the report on what is told, in other words for that
pub telling_of : (told : Option (List ℕ)) (Told : Option (List ℕ) → Type 0) (Lacks : ℕ → Type 0) (kept : Type 0) (wrote : List ℕ → Type 0) (cut : List ℕ → ℕ → Type 0) → Told told
    → (report : Report) → IsTellingReport (λ t. t ≡ told) (λ number. ⊥) kept wrote cut report → IsTellingReport Told Lacks kept wrote cut report
telling_of told Told Lacks kept wrote cut holds Done r = record { is = subst Told (sym r.is) holds; became = r.became }
telling_of told Told Lacks kept wrote cut holds No r = r
telling_of told Told Lacks kept wrote cut holds (Driven refused) r = r
telling_of told Told Lacks kept wrote cut holds (Ran stats) r = r
telling_of told Told Lacks kept wrote cut holds Explained r = record { text = r.text; told = record { is = subst Told (sym r.told.is) holds; became = r.told.became } }
telling_of told Told Lacks kept wrote cut holds (Refused number place) r = r
telling_of told Told Lacks kept wrote cut holds (Fault number) (inl none) = absurd none.0
telling_of told Told Lacks kept wrote cut holds (Fault number) (inr c) = inr (record { number_is = c.number_is; told = c.told; written = c.written; stopped = record { is = subst Told (sym c.stopped.is) holds; became = c.stopped.became } })
telling_of told Told Lacks kept wrote cut holds Misused r = r
