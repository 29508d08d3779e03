-- Statuses and lines of reports, and the report of `print`.
use Rattle.std.specs.Prelude.{◌≡◌, ◌==◌, ◌||◌, ◌&&◌, ◌⊎◌, nat_le, ℕ, Bool, true, false, if◌then◌else◌, Option, None, Some, List, [], ◌++◌, codes, decimal, flat_map}
use Rattle.commands.specs.declared.report.Report.{Report}
use Rattle.commands.specs.declared.report.Report.TheVariants.{Done, No, Driven, Ran, Explained, Refused, Fault, Misused}
use Rattle.commands.specs.declared.driving.RefusedStep.{RefusedStep}
use Rattle.commands.specs.Counts.{stats_text}
use Rattle.commands.specs.Unread.{IsSourceWith, IsUnread}
use Rattle.commands.specs.Printing.{IsPrinted, IsRefusedSource}

abbrev pub status_of : Report → ℕ
status_of Done = 0
status_of No = 4
status_of (Driven refused) = 0
status_of (Ran stats) = 0
status_of Explained = 1
status_of (Refused number place) = 1
status_of (Fault number) = 3
status_of Misused = 2

-- the line of a refused step
abbrev pub refused_line : RefusedStep → List ℕ
refused_line refused = codes "step " ++ decimal refused.step ++ codes " refused " ++ decimal refused.number ++ codes "\n"

-- the line on standard error, with its line feed; a line for each refused step, and for each count of what workers did; nothing where all is done, and nothing after what was said of wrong words
abbrev pub line_of : Report → List ℕ
line_of Done = []
line_of No = []
line_of (Driven refused) = flat_map refused_line refused.items
line_of (Ran stats) = stats_text stats
line_of Explained = []
line_of (Refused number None) = codes "refused " ++ decimal number ++ codes "\n"
line_of (Refused number (Some place)) = codes "refused " ++ decimal number ++ codes " at " ++ decimal place ++ codes "\n"
line_of (Fault number) = codes "fault " ++ decimal number ++ codes "\n"
line_of Misused = []

-- want of memory, 1, what befalls a run, 40 to 49, and what befalls writers, workers and files, from 60 on, are faults
abbrev pub is_fault : ℕ → Bool
is_fault number = number == 1 || (nat_le 40 number && nat_le number 49 || nat_le 60 number)

-- the report of a refusal with this number and place
abbrev pub report_of : ℕ → Option ℕ → Report
report_of number place = if is_fault number then Fault number else Refused number place

-- all that was asked for is done; `check` may have said no, and `explain` told of a refusal
abbrev pub is_served : Report → Bool
is_served Done = true
is_served No = true
is_served (Driven refused) = true
is_served (Ran stats) = true
is_served Explained = true
is_served (Refused number place) = false
is_served (Fault number) = false
is_served Misused = false

-- a write failed (60), and the source's layout is cut after so many bytes
pub record IsPrintCut (has : List ℕ → Type 0) (cut : List ℕ → ℕ → Type 0) (number : ℕ) : Type 0 where
  pub number_is : number ≡ 60
  pub written : ℕ
  pub stopped : IsSourceWith has (λ source. IsPrinted source (λ text. cut text written))

-- The report on a source file that has these bytes, or can't be read, where the same became of the output.
abbrev pub IsPrintReport : (List ℕ → Type 0) → Type 0 → Type 0 → (List ℕ → Type 0) → (List ℕ → ℕ → Type 0) → Report → Type 0
IsPrintReport has lacks kept wrote cut Done = IsSourceWith has (λ source. IsPrinted source wrote)
IsPrintReport has lacks kept wrote cut No = ⊥
IsPrintReport has lacks kept wrote cut (Driven refused) = ⊥
IsPrintReport has lacks kept wrote cut (Ran stats) = ⊥
IsPrintReport has lacks kept wrote cut Explained = ⊥
IsPrintReport has lacks kept wrote cut (Refused number place) = IsSourceWith has (λ source. IsRefusedSource source number place) × kept
IsPrintReport has lacks kept wrote cut (Fault number) = (IsUnread lacks number × kept) ⊎ IsPrintCut has cut number
IsPrintReport has lacks kept wrote cut Misused = ⊥
