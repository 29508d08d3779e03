-- What a person is told of a report at length, behind its line.
use Rattle.std.specs.Prelude.{◌≡◌, ◌⊎◌, ◌<◌, ◌++◌, ◌==◌, ℕ, Option, None, Some, List, codes, if◌then◌else◌, length}
use Rattle.trace.specs.declared.counted.Counted.{Counted}
use Rattle.commands.specs.declared.explaining.Subject.{Subject}
use Rattle.commands.specs.declared.files.FileFault.{FileFault}
use Rattle.commands.specs.declared.files.FileFault.TheVariants as file
use Rattle.commands.specs.declared.reasons.Cause.{Cause}
use Rattle.commands.specs.declared.reasons.Cause.TheVariants as cause
use Rattle.commands.specs.declared.report.Report.{Report}
use Rattle.commands.specs.declared.report.Report.TheVariants.{Done, No, Driven, Ran, Explained, Refused, Fault, Misused}
use Rattle.commands.specs.Explained.{AllTold, LacksAny, named}
use Rattle.commands.specs.Unread.{IsTooLarge}
use Rattle.commands.specs.Written.{IsSaid}

-- why a file isn't read
abbrev pub reason_of : FileFault → List ℕ
reason_of file.NoMemory = codes "out of memory"
reason_of file.Missing = codes "no such file"
reason_of file.Folder = codes "it is a folder"
reason_of file.Denied = codes "it may not be read"
reason_of file.Failed = codes "it can't be read"

-- the line that tells of a file, by its name
abbrev pub line_on : List ℕ → List ℕ → List ℕ
line_on name reason = name ++ (codes ": " ++ (reason ++ codes "\n"))

-- a command's source, table, steps or actions have this name
abbrev pub IsNamedBy : Subject → List ℕ → Type 0
IsNamedBy subject name = (name ≡ subject.source.now) ⊎ ((named subject.table ≡ Some name) ⊎ ((named subject.steps ≡ Some name) ⊎ (named subject.actions ≡ Some name)))

-- of these files this is told by `explain`
abbrev pub IsToldOf : (List ℕ → List ℕ → Type 0) → Subject → Option (List ℕ) → Type 0
IsToldOf has subject = AllTold has subject.source.now (named subject.table) (named subject.steps) (named subject.actions)

-- Of a refusal: what `explain` tells of the first of the files that is refused; where none is, or one isn't read, some text on the refusal's number.
abbrev pub IsRefusalReason : (List ℕ → List ℕ → Type 0) → (List ℕ → Type 0) → Subject → List ℕ → Type 0
IsRefusalReason has lacks subject text =
    IsToldOf has subject (Some text)
    ⊎ ((IsToldOf has subject None ⊎ ((number : ℕ) × LacksAny has lacks subject.source.now (named subject.table) (named subject.steps) (named subject.actions) number))
    × (0 < length text))

-- of a file that can't be read: its name and why
pub record IsUnreadReason (lacks : List ℕ → Type 0) (subject : Subject) (text : List ℕ) : Type 0 where
  pub name : List ℕ
  pub is : IsNamedBy subject name
  pub lacking : lacks name
  pub fault : FileFault
  pub line : text ≡ line_on name (reason_of fault)

-- of a file that is too large: its name and the most that it may have
pub record IsLargeReason (has : List ℕ → List ℕ → Type 0) (subject : Subject) (text : List ℕ) : Type 0 where
  pub name : List ℕ
  pub is : IsNamedBy subject name
  pub large : IsTooLarge (has name)
  pub line : text ≡ line_on name (codes "it has more than 16777216 bytes")

-- of a fault's number
abbrev pub cause_of_fault : ℕ → Option Cause
cause_of_fault number = if number == 63 then Some cause.Unread else (if number == 64 then Some cause.Large else None)

-- what is to be told of a report
abbrev pub cause_of : Report → Option Cause
cause_of Done = None
cause_of No = None
cause_of (Driven refused) = None
cause_of (Ran stats) = None
cause_of Explained = None
cause_of (Refused number place) = Some (cause.Refusal number)
cause_of (Fault number) = cause_of_fault number
cause_of Misused = None

-- what is told, or where nothing is, some other text
abbrev pub IsToldOr : Option (List ℕ) → List ℕ → Type 0
IsToldOr told text = (told ≡ Some text) ⊎ ((told ≡ None) × (0 < length text))

-- of these files this is told for this cause
abbrev pub IsReason : (List ℕ → List ℕ → Type 0) → (List ℕ → Type 0) → Subject → Cause → List ℕ → Type 0
IsReason has lacks subject (cause.Refusal number) text = IsRefusalReason has lacks subject text
IsReason has lacks subject cause.Unread text = IsUnreadReason lacks subject text
IsReason has lacks subject cause.Large text = IsLargeReason has subject text

-- nothing was said, or a text of this kind
abbrev pub SaysAny : {W : Type 0} → (W → Option (List ℕ)) → Counted W → Counted W → (List ℕ → Type 0) → Type 0
SaysAny known old new Is = (new ≡ old) ⊎ ((text : List ℕ) × Is text × IsSaid known old new text)
