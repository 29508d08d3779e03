-- When each report is given.
use Rattle.std.specs.Prelude.{◌≡◌, ◌⊎◌, ℕ, Bool as Truth, true, false, List, []}
use Rattle.clap.specs.declared.error.ErrorKind.TheVariants.{DisplayHelp, DisplayVersion}
use Rattle.command_line.specs.declared.Asked.{Asked}
use Rattle.command_line.specs.declared.Asked.TheVariants as asked
use Rattle.command_line.specs.Words.{AskNothing, HasFault, IsAsked, IsWrong, version_text}
use Rattle.commands.specs.declared.report.Report.{Report}
use Rattle.commands.specs.declared.report.Report.TheVariants.{Done, No, Driven, Ran, Explained, Refused, Fault, Misused}
use Rattle.commands.specs.Drawing.{IsDrawFileReport}
use Rattle.commands.specs.Explained.{IsExplainReport, named}
use Rattle.commands.specs.FileReports.{IsCheckFileReport, IsDriveFileReport, IsSimulateFileReport}
use Rattle.commands.specs.Formatting.{IsFormatReport, IsLayoutReport}
use Rattle.commands.specs.Hunting.{IsHuntFileReport}
use Rattle.commands.specs.Reports.{IsPrintReport, is_served}
use Rattle.commands.specs.Written.{SomeText}
use Rattle.service.specs.Crews.{IsRunFileReport}

-- the report of `format`: where the layout is only judged, nothing is written
abbrev pub IsFormatReportOn : Truth → (List ℕ → Type 0) → Type 0 → Type 0 → (List ℕ → Type 0) → (List ℕ → ℕ → Type 0) → Report → Type 0
IsFormatReportOn false has lacks kept wrote cut report = IsFormatReport has lacks kept wrote cut report
IsFormatReportOn true has lacks kept wrote cut report = IsLayoutReport has lacks report × wrote []

-- the report on what is asked for
abbrev pub IsReportOn : Asked → (List ℕ → List ℕ → Type 0) → (List ℕ → Type 0) → Type 0 → (List ℕ → Type 0) → (List ℕ → ℕ → Type 0) → Report → Type 0
IsReportOn (asked.Print source) has lacks = IsPrintReport (has source.now) (lacks source.now)
IsReportOn (asked.Format source check) has lacks = IsFormatReportOn check (has source.now) (lacks source.now)
IsReportOn (asked.Reference source options) has lacks = IsSimulateFileReport has lacks source.now options
IsReportOn (asked.Run source options crew) has lacks = IsRunFileReport has lacks source.now options crew.stats
IsReportOn (asked.Check source trace) has lacks = IsCheckFileReport has lacks source.now trace.now
IsReportOn (asked.Drive source steps options) has lacks = IsDriveFileReport has lacks source.now steps.now options
IsReportOn (asked.Explain source table steps actions) has lacks =
    IsExplainReport has lacks source.now (named table) (named steps) (named actions)
IsReportOn (asked.Hunt source action hunting) has lacks = IsHuntFileReport (has source.now) (lacks source.now) action.now hunting
IsReportOn (asked.Draw source options ticks) has lacks = IsDrawFileReport has lacks source.now options ticks

-- the words ask for something, and this is the report on it
pub record IsReportOnAsked (words : List (List ℕ)) (has : List ℕ → List ℕ → Type 0) (lacks : List ℕ → Type 0) (kept : Type 0) (wrote : List ℕ → Type 0) (cut : List ℕ → ℕ → Type 0) (report : Report) : Type 0 where
  pub what : Asked
  pub is : IsAsked words what
  pub on : IsReportOn what has lacks kept wrote cut report

-- the words ask for help, and this became of a text
pub record IsHelped (words : List (List ℕ)) (Became : List ℕ → Type 0) : Type 0 where
  pub asked : HasFault words DisplayHelp
  pub went : SomeText Became

-- the words ask for the version, and this became of its text
pub record IsVersioned (words : List (List ℕ)) (Became : List ℕ → Type 0) : Type 0 where
  pub asked : HasFault words DisplayVersion
  pub went : Became version_text

-- the words ask for help or for the version, and this became of the text
abbrev pub IsInformed : List (List ℕ) → (List ℕ → Type 0) → Type 0
IsInformed words Became = IsHelped words Became ⊎ IsVersioned words Became

-- a write of that text failed (60)
pub record IsInformedCut (words : List (List ℕ)) (cut : List ℕ → ℕ → Type 0) (number : ℕ) : Type 0 where
  pub number_is : number ≡ 60
  pub written : ℕ
  pub stopped : IsInformed words (λ text. cut text written)

-- The report on words that ask for no simulation: help or the version, want of memory (1), a failed write of such a text (60), or words of another
-- program.
abbrev pub IsUnserved : List (List ℕ) → Type 0 → (List ℕ → Type 0) → (List ℕ → ℕ → Type 0) → Report → Type 0
IsUnserved words kept wrote cut Done = IsInformed words wrote
IsUnserved words kept wrote cut No = ⊥
IsUnserved words kept wrote cut (Driven refused) = ⊥
IsUnserved words kept wrote cut (Ran stats) = ⊥
IsUnserved words kept wrote cut Explained = ⊥
IsUnserved words kept wrote cut (Refused number place) = ⊥
IsUnserved words kept wrote cut (Fault number) = ((number ≡ 1) × kept) ⊎ IsInformedCut words cut number
IsUnserved words kept wrote cut Misused = (IsWrong words ⊎ AskNothing words) × kept

-- the report on the words after the program's name
abbrev pub IsReport : List (List ℕ) → (List ℕ → List ℕ → Type 0) → (List ℕ → Type 0) → Type 0 → (List ℕ → Type 0) → (List ℕ → ℕ → Type 0) → Report → Type 0
IsReport words has lacks kept wrote cut report = IsReportOnAsked words has lacks kept wrote cut report ⊎ IsUnserved words kept wrote cut report

-- the report is a failed write (60) in place of one that all is done, after all of its text was written: the flush failed, which no clause on writers tells
pub record IsUnflushed (words : List (List ℕ)) (has : List ℕ → List ℕ → Type 0) (lacks : List ℕ → Type 0) (kept : Type 0) (wrote : List ℕ → Type 0) (cut : List ℕ → ℕ → Type 0) (report : Report) : Type 0 where
  pub is : report ≡ Fault 60
  pub served : Report
  pub done : is_served served ≡ true
  pub on : IsReport words has lacks kept wrote cut served

-- the report on the words after the program's name, once the output is flushed
abbrev pub IsFlushedReport : List (List ℕ) → (List ℕ → List ℕ → Type 0) → (List ℕ → Type 0) → Type 0 → (List ℕ → Type 0) → (List ℕ → ℕ → Type 0) → Report → Type 0
IsFlushedReport words has lacks kept wrote cut report = IsReport words has lacks kept wrote cut report ⊎ IsUnflushed words has lacks kept wrote cut report
