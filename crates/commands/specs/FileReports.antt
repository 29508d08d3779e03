-- The reports on files: those on their bytes, each read after those before it were judged.
use Rattle.std.specs.Prelude.{◌⊎◌, ℕ, Bool, true, false, Option, None, Some, List, option_map}
use Rattle.plans.specs.declared.plan.Plan.{Plan}
use Rattle.io_automata.specs.Automata.{Instance}
use Rattle.plans.specs.Plans.{composition}
use Rattle.task_seed.specs.Turning.{System}
use Rattle.trace.specs.declared.lines.Lines.{Lines}
use Rattle.trace.specs.declared.lines.Lines.TheVariants.{All, Trace}
use Rattle.trace.specs.declared.texts.Form.{Form}
use Rattle.command_line.specs.declared.Options.{Options}
use Rattle.commands.specs.declared.report.Report.{Report}
use Rattle.commands.specs.Checks.{IsActionsReport}
use Rattle.commands.specs.Compositions.{GivesNoPlan, HasPlan}
use Rattle.commands.specs.Drives.{IsStepsReport}
use Rattle.commands.specs.Parts.{IsLacking, IsSimulationReport}
use Rattle.commands.specs.Setups.{Given, Seed, Table, GivesNoSystem}
use Rattle.commands.specs.Simulations.{IsEngineReport, Means}
use Rattle.commands.specs.Unread.{HasSmall, IsFileFault, IsSourceWith, IsUnread}

-- the lines that are asked for
abbrev pub lines_for : Bool → Lines
lines_for true = Trace
lines_for false = All

-- how the turns that are asked for are written
abbrev pub form_for : Options → Form
form_for options = record { lines = lines_for options.trace; head = options.head }

-- the table that is asked for
abbrev pub table_of : Options → Option (List ℕ)
table_of options = option_map (λ s. s.now) options.table

-- the turns that are asked for, by a seed or by the table that is named, are some of which this
-- holds
abbrev pub HasTurns : (List ℕ → List ℕ → Type 0) → Options → Option (List ℕ) → (Given → Type 0)
    → Type 0
HasTurns has options None Holds =
    Holds (Seed options.seed options.stream options.gap options.from_zero)
HasTurns has options (Some name) Holds = HasSmall (has name) (λ bytes. Holds (Table bytes))

-- the table that is asked for isn't read
abbrev pub LacksTable : (List ℕ → List ℕ → Type 0) → (List ℕ → Type 0) → Option (List ℕ) → ℕ
    → Type 0
LacksTable has lacks None number = ⊥
LacksTable has lacks (Some name) number = IsFileFault (has name) (lacks name) number

-- the report where the turns that are asked for give no system: the table isn't read, or its bytes
-- or the numbers give none
abbrev pub HasNoSystem : (List ℕ → List ℕ → Type 0) → (List ℕ → Type 0) → List Instance → Options
    → Option (List ℕ) → Report → Type 0
HasNoSystem has lacks composition options table report =
    IsLacking (LacksTable has lacks table) report
    ⊎ HasTurns has options table (λ given. GivesNoSystem composition given options.ticks report)

-- the report where a source file gives no plan: it isn't read, or its bytes give none
abbrev pub HasNoPlan : (List ℕ → Type 0) → Type 0 → Report → Type 0
HasNoPlan has lacks report =
    IsLacking (IsUnread lacks) report ⊎ IsSourceWith has (λ source. GivesNoPlan source report)

-- the source file means this plan, and with the turns that are asked for this system
abbrev pub FilesMean : (List ℕ → List ℕ → Type 0) → List ℕ → Options → Plan → System → Type 0
FilesMean has source options plan system =
    IsSourceWith (has source) (λ bytes. HasTurns has options (table_of options)
    (λ given. Means bytes given options.ticks plan system))

-- the report where they mean none; the source is judged before the table is read
abbrev pub FilesMeanNone : (List ℕ → List ℕ → Type 0) → (List ℕ → Type 0) → List ℕ → Options
    → Report → Type 0
FilesMeanNone has lacks source options report =
    HasNoPlan (has source) (lacks source) report
    ⊎ IsSourceWith (has source) (λ bytes. HasPlan bytes
    (λ plan. HasNoSystem has lacks (composition plan) options (table_of options) report))

-- the report on a file of steps or actions: it isn't read, and the output is kept, or else that on
-- its bytes
abbrev pub IsSmallReport : (List ℕ → Type 0) → Type 0 → Type 0 → (List ℕ → Report → Type 0)
    → Report → Type 0
IsSmallReport has lacks kept Ends report =
    (IsLacking (IsFileFault has lacks) report × kept) ⊎ HasSmall has (λ bytes. Ends bytes report)

-- The reports, where files have these bytes or can't be read, and the output was kept, a text was
-- written to it, or a write failed after so many bytes of a text.

abbrev pub IsSimulateFileReport : (List ℕ → List ℕ → Type 0) → (List ℕ → Type 0) → List ℕ → Options
    → Type 0 → (List ℕ → Type 0) → (List ℕ → ℕ → Type 0) → Report → Type 0
IsSimulateFileReport has lacks source options kept wrote cut =
    IsEngineReport (FilesMean has source options) (FilesMeanNone has lacks source options) kept
    (λ plan system. IsSimulationReport plan system (form_for options) wrote cut)

-- the steps are read last
abbrev pub IsDriveFileReport : (List ℕ → List ℕ → Type 0) → (List ℕ → Type 0) → List ℕ → List ℕ
    → Options → Type 0 → (List ℕ → Type 0) → (List ℕ → ℕ → Type 0) → Report → Type 0
IsDriveFileReport has lacks source steps options kept wrote cut =
    IsEngineReport (FilesMean has source options) (FilesMeanNone has lacks source options) kept
    (λ plan system. IsSmallReport (has steps) (lacks steps) kept
    (λ bytes. IsStepsReport plan system (form_for options) bytes kept wrote cut))

-- the source is judged before the actions are read
abbrev pub IsCheckFileReport : (List ℕ → List ℕ → Type 0) → (List ℕ → Type 0) → List ℕ → List ℕ
    → Type 0 → (List ℕ → Type 0) → (List ℕ → ℕ → Type 0) → Report → Type 0
IsCheckFileReport has lacks source trace kept wrote cut report =
    (HasNoPlan (has source) (lacks source) report × kept)
    ⊎ IsSourceWith (has source) (λ bytes. HasPlan bytes
    (λ plan. IsSmallReport (has trace) (lacks trace) kept
    (λ actions. IsActionsReport plan actions kept wrote cut) report))
