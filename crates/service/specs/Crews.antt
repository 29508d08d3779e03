-- The report of `run`.
use Rattle.std.specs.Prelude.{◌≡◌, ◌⊎◌, ℕ, Bool, true, false, if◌then◌else◌, List}
use Rattle.plans.specs.declared.plan.Plan.{Plan}
use Rattle.task_seed.specs.Turning.{System}
use Rattle.trace.specs.declared.lines.Lines.{Lines}
use Rattle.trace.specs.declared.texts.Form.{Form}
use Rattle.trace.specs.Headed.{Behind, headed}
use Rattle.command_line.specs.declared.Options.{Options}
use Rattle.steering.specs.declared.stats.Stats.{Stats}
use Rattle.workers.specs.Runs.{IsBegun, IsCut, IsWhole}
use Rattle.commands.specs.declared.report.Report.{Report}
use Rattle.commands.specs.declared.report.Report.TheVariants.{Done, No, Driven, Ran, Explained, Refused, Fault, Misused}
use Rattle.commands.specs.FileReports.{FilesMean, FilesMeanNone, form_for}
use Rattle.commands.specs.Setups.{Given}
use Rattle.commands.specs.Simulations.{IsEngineReport, Means, MeansNone}

-- the text of all turns, however many there are, became this
pub record IsFinished (plan : Plan) (system : System) (lines : Lines) (Became : List ℕ → Type 0) : Type 0 where
  pub count : ℕ
  pub whole : IsWhole plan system lines Became count

-- a run ended early: by want of memory (1), a refused lease (40 or 41), a worker that wasn't started (61), or turns out of place (62)
abbrev pub IsRunFault : ℕ → Type 0
IsRunFault number = (number ≡ 1) ⊎ ((number ≡ 40) ⊎ ((number ≡ 41) ⊎ ((number ≡ 61) ⊎ (number ≡ 62))))

-- a write failed (60), and the text of all turns, behind the head that is asked for, is cut after so
-- many bytes
pub record IsCrewCut (plan : Plan) (system : System) (form : Form) (cut : List ℕ → ℕ → Type 0)
    (number : ℕ) : Type 0 where
  pub number_is : number ≡ 60
  pub written : ℕ
  pub stopped : IsCut plan system form.lines (λ text. cut (headed form.head text) written)

-- the report on workers that simulate a plan with turns, whose text stands behind the head that is
-- asked for, and tell what they did or not
abbrev pub IsCrewReport : Plan → System → Form → Bool → Type 0 → (List ℕ → Type 0)
    → (List ℕ → ℕ → Type 0) → Report → Type 0
IsCrewReport plan system form stats kept wrote cut Done =
    (stats ≡ false) × IsFinished plan system form.lines (Behind form.head wrote)
IsCrewReport plan system form stats kept wrote cut No = ⊥
IsCrewReport plan system form stats kept wrote cut (Driven refused) = ⊥
IsCrewReport plan system form stats kept wrote cut (Ran counts) =
    (stats ≡ true) × IsWhole plan system form.lines (Behind form.head wrote) counts.turns
IsCrewReport plan system form stats kept wrote cut Explained = ⊥
IsCrewReport plan system form stats kept wrote cut (Refused number place) = ⊥
IsCrewReport plan system form stats kept wrote cut (Fault number) =
    (IsRunFault number × (kept ⊎ IsBegun plan system form.lines (Behind form.head wrote)))
    ⊎ IsCrewCut plan system form cut number
IsCrewReport plan system form stats kept wrote cut Misused = ⊥

-- the report on workers that are done
abbrev pub done : Bool → Stats → Report
done stats counts = if stats then Ran counts else Done

-- The report of `run` on a source and turns, where the output was kept, a text was written to it,
-- or a write failed after so many bytes of a text.
abbrev pub IsRunReport : List ℕ → Given → ℕ → Form → Bool → Type 0 → (List ℕ → Type 0)
    → (List ℕ → ℕ → Type 0) → Report → Type 0
IsRunReport source given ticks form stats kept wrote cut =
    IsEngineReport (Means source given ticks) (MeansNone source given ticks) kept
    (λ plan system. IsCrewReport plan system form stats kept wrote cut)

-- The same on files that have these bytes or can't be read, and the options that were asked for.
abbrev pub IsRunFileReport : (List ℕ → List ℕ → Type 0) → (List ℕ → Type 0) → List ℕ → Options
    → Bool → Type 0 → (List ℕ → Type 0) → (List ℕ → ℕ → Type 0) → Report → Type 0
IsRunFileReport has lacks source options stats kept wrote cut =
    IsEngineReport (FilesMean has source options) (FilesMeanNone has lacks source options) kept
    (λ plan system. IsCrewReport plan system (form_for options) stats kept wrote cut)
