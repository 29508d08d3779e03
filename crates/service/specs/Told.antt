-- What is said of a report on standard error.
use Rattle.std.specs.Prelude.{◌≡◌, ◌≢◌, ◌⊎◌, ℕ, Option, Some, List}
use Rattle.command_line.specs.declared.Asked.{Asked}
use Rattle.command_line.specs.Words.{IsAsked}
use Rattle.trace.specs.declared.counted.Counted.{Counted}
use Rattle.commands.specs.declared.report.Report.{Report}
use Rattle.commands.specs.declared.report.Report.TheVariants.{Done, No, Driven, Ran, Explained, Refused, Fault, Misused}
use Rattle.commands.specs.declared.reasons.Cause.{Cause}
use Rattle.commands.specs.Reasons.{IsReason, SaysAny, cause_of}
use Rattle.commands.specs.Reports.{line_of}
use Rattle.commands.specs.Written.{IsSaid, SomeText}
use Rattle.service.specs.Subjects.{subject_of}

-- before its line: some text where the words are wrong, and else nothing
abbrev pub IsWarned : {E : Type 0} → (E → Option (List ℕ)) → Counted E → Counted E → Report → Type 0
IsWarned known old new Done = new ≡ old
IsWarned known old new No = new ≡ old
IsWarned known old new (Driven refused) = new ≡ old
IsWarned known old new (Ran stats) = new ≡ old
IsWarned known old new Explained = new ≡ old
IsWarned known old new (Refused number place) = new ≡ old
IsWarned known old new (Fault number) = new ≡ old
IsWarned known old new Misused = SomeText (IsSaid known old new)

-- in all: nothing where all is done, the lines of the refused steps or of what workers did, the line of a refusal or a fault, and some text where the words are wrong
abbrev pub IsTold : {E : Type 0} → (E → Option (List ℕ)) → Counted E → Counted E → Report → Type 0
IsTold known old new Done = new ≡ old
IsTold known old new No = new ≡ old
IsTold known old new (Driven refused) = IsSaid known old new (line_of (Driven refused))
IsTold known old new (Ran stats) = IsSaid known old new (line_of (Ran stats))
IsTold known old new Explained = new ≡ old
IsTold known old new (Refused number place) = IsSaid known old new (line_of (Refused number place))
IsTold known old new (Fault number) = IsSaid known old new (line_of (Fault number))
IsTold known old new Misused = SomeText (IsSaid known old new)

-- of the files about which the words ask was told why, for the report's cause
pub record HasWhy {E : Type 0} (known : E → Option (List ℕ)) (words : List (List ℕ)) (has : List ℕ → List ℕ → Type 0) (lacks : List ℕ → Type 0) (old new : Counted E) (report : Report) : Type 0 where
  pub cause : Cause
  pub of : cause_of report ≡ Some cause
  pub what : Asked
  pub is : IsAsked words what
  pub said : SaysAny known old new (IsReason has lacks (subject_of what) cause)

-- that, or nothing
abbrev pub SaysWhy : {E : Type 0} → (E → Option (List ℕ)) → List (List ℕ) → (List ℕ → List ℕ → Type 0) → (List ℕ → Type 0) → Counted E → Counted E → Report → Type 0
SaysWhy known words has lacks old new report = (new ≡ old) ⊎ HasWhy known words has lacks old new report

-- a person is told the same, and behind it why; of a failed write (60) nothing
abbrev pub IsToldPerson : {E : Type 0} → (E → Option (List ℕ)) → List (List ℕ) → (List ℕ → List ℕ → Type 0) → (List ℕ → Type 0) → Counted E → Counted E → Report → Type 0
IsToldPerson {E} known words has lacks old new report =
    ((report ≡ Fault 60) × (new ≡ old))
    ⊎ ((report ≢ Fault 60) × (mid : Counted E) × IsTold known old mid report × SaysWhy known words has lacks mid new report)
