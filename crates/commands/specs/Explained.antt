-- The report of `explain`.
use Rattle.std.specs.Prelude.{◌≡◌, ◌≢◌, ◌⊎◌, ℕ, Bool, true, false, Option, None, Some, List, codes, option_map, take}
use Rattle.std.specs.Borrow.{Bor}
use Rattle.std.specs.List.{list_all}
use Rattle.terms.specs.Named.{Named}
use Rattle.ioa_tokens.specs.Bytes.{is_digit}
use Rattle.event_keys.specs.declared.step.Step.{Step}
use Rattle.plans.specs.declared.plan.Plan.{Plan}
use Rattle.plans.specs.Plans.{composition}
use Rattle.task_seed.specs.Table.{lines_of}
use Rattle.task_seed.specs.declared.turns.Turn.{Turn}
use Rattle.compose.specs.declared.source_error.SourceError.{SourceError}
use Rattle.compose.specs.Composed.{IsRefused, front_bytes}
use Rattle.compose.specs.Refusals.{source_number}
use Rattle.explain.specs.Explanations.{IsExplanation, IsLineExplanation}
use Rattle.trace.specs.StepFile.{GivesSteps, IsStepsFault}
use Rattle.trace.specs.Versions.{GivesFile, HasFault}
use Rattle.commands.specs.declared.report.Report.{Report}
use Rattle.commands.specs.declared.report.Report.TheVariants.{Done, No, Driven, Ran, Explained, Refused, Fault, Misused}
use Rattle.commands.specs.Checks.{HasBadLine}
use Rattle.commands.specs.Compositions.{HasPlan}
use Rattle.commands.specs.FileReports.{LacksTable}
use Rattle.commands.specs.Setups.{IsTabled}
use Rattle.commands.specs.Tables as table
use Rattle.commands.specs.Unread.{HasSmall, IsSourceWith, IsUnread}
use Rattle.commands.specs.Written.{SomeText}

-- the source is refused, as `reference` refuses it, and the text tells of that
pub record TellsSource (name source text : List ℕ) : Type 0 where
  pub error : SourceError
  pub refused : IsRefused source error
  pub judged : source_number error ≢ 1
  pub told : IsExplanation name (take front_bytes source) error text

-- a file of lines is refused, and the text tells of that
pub record TellsLine (IsBad : ℕ → Option ℕ → Type 0) (name bytes text : List ℕ) : Type 0 where
  pub number : ℕ
  pub place : Option ℕ
  pub bad : IsBad number place
  pub told : IsLineExplanation name bytes number place text

-- the report refuses a file of lines, and that is told
pub record TellsReport (name bytes : List ℕ) (report : Report) (told : Option (List ℕ)) : Type 0 where
  pub number : ℕ
  pub place : Option ℕ
  pub report_is : report ≡ Refused number place
  pub text : List ℕ
  pub told_is : told ≡ Some text
  pub is : IsLineExplanation name bytes number place text

-- a further file is accepted, if it is named
abbrev pub Accepts : (List ℕ → List ℕ → Type 0) → (List ℕ → Type 0) → Option (List ℕ) → Type 0
Accepts has IsGood None = Unit {0}
Accepts has IsGood (Some name) = HasSmall (has name) IsGood

-- a further file is named and refused, and the text tells of that
abbrev pub Tells : (List ℕ → List ℕ → Type 0) → (List ℕ → ℕ → Option ℕ → Type 0)
    → Option (List ℕ) → List ℕ → Type 0
Tells has IsBad None text = ⊥
Tells has IsBad (Some name) text = HasSmall (has name) (λ bytes. TellsLine (IsBad bytes) name bytes text)

-- what is told of a further file: nothing where it is accepted or not named
abbrev pub IsJudged : (List ℕ → List ℕ → Type 0) → (List ℕ → Type 0)
    → (List ℕ → ℕ → Option ℕ → Type 0) → Option (List ℕ) → Option (List ℕ) → Type 0
IsJudged has IsGood IsBad name None = Accepts has IsGood name
IsJudged has IsGood IsBad name (Some text) = Tells has IsBad name text

-- the name of a file, if there is one
abbrev pub named : Option (Bor (List ℕ)) → Option (List ℕ)
named = option_map (λ s. s.now)

-- when a table, steps and actions are accepted for a composition
abbrev pub IsTable : Plan → List ℕ → Type 0
IsTable plan bytes = (turn : ℕ → ℕ → Option Turn) × IsTabled (composition plan) bytes turn

abbrev pub AreSteps : Plan → List ℕ → Type 0
AreSteps plan bytes = (steps : List Step) × GivesSteps plan (lines_of bytes) steps

abbrev pub AreActions : Plan → List ℕ → Type 0
AreActions plan bytes = (actions : List Named) × GivesFile plan bytes actions

-- and when they are refused
abbrev pub IsBadTable : Plan → List ℕ → ℕ → Option ℕ → Type 0
IsBadTable plan = table.IsRefused (composition plan)

abbrev pub AreBadSteps : Plan → List ℕ → ℕ → Option ℕ → Type 0
AreBadSteps plan bytes number place = HasBadLine IsStepsFault number place plan bytes

abbrev pub AreBadActions : Plan → List ℕ → ℕ → Option ℕ → Type 0
AreBadActions plan bytes number place = HasBadLine HasFault number place plan bytes

-- what is told of the files behind the table: nothing where both are accepted, and else of the
-- first that is refused
abbrev pub LaterTold : (List ℕ → List ℕ → Type 0) → Plan → Option (List ℕ) → Option (List ℕ)
    → Option (List ℕ) → Type 0
LaterTold has plan steps actions None =
    Accepts has (AreSteps plan) steps × Accepts has (AreActions plan) actions
LaterTold has plan steps actions (Some text) =
    Tells has (AreBadSteps plan) steps text
    ⊎ (Accepts has (AreSteps plan) steps × Tells has (AreBadActions plan) actions text)

-- what is told of the further files: nothing where all are accepted, and else of the first that
-- is refused, in the order table, steps, actions
abbrev pub FilesTold : (List ℕ → List ℕ → Type 0) → Plan → Option (List ℕ) → Option (List ℕ)
    → Option (List ℕ) → Option (List ℕ) → Type 0
FilesTold has plan table steps actions None =
    Accepts has (IsTable plan) table × LaterTold has plan steps actions None
FilesTold has plan table steps actions (Some text) =
    Tells has (IsBadTable plan) table text
    ⊎ (Accepts has (IsTable plan) table × LaterTold has plan steps actions (Some text))

-- what is told of a source that is refused
abbrev pub SourceTold : List ℕ → List ℕ → Option (List ℕ) → Type 0
SourceTold name source None = ⊥
SourceTold name source (Some text) = TellsSource name source text

-- what is told of all files: the source is judged first
abbrev pub AllTold : (List ℕ → List ℕ → Type 0) → List ℕ → Option (List ℕ) → Option (List ℕ)
    → Option (List ℕ) → Option (List ℕ) → Type 0
AllTold has source table steps actions told =
    IsSourceWith (has source) (λ bytes. SourceTold source bytes told
    ⊎ HasPlan bytes (λ plan. FilesTold has plan table steps actions told))

-- a file isn't read: for want of memory (1), or it can't be read (63), or is too large (64)
abbrev pub LacksAny : (List ℕ → List ℕ → Type 0) → (List ℕ → Type 0) → List ℕ → Option (List ℕ)
    → Option (List ℕ) → Option (List ℕ) → ℕ → Type 0
LacksAny has lacks source table steps actions number =
    IsUnread (lacks source) number
    ⊎ (LacksTable has lacks table number
    ⊎ (LacksTable has lacks steps number ⊎ LacksTable has lacks actions number))

-- what is written of what is told
abbrev pub text_of : Option (List ℕ) → List ℕ
text_of None = codes "no fault\n"
text_of (Some text) = text

-- this is told of the files, and became of its text
pub record IsAllTold (Told : Option (List ℕ) → Type 0) (told : Option (List ℕ))
    (Became : List ℕ → Type 0) : Type 0 where
  pub is : Told told
  pub became : Became (text_of told)

-- a text is told of which this became
pub record SomeTold (Told : Option (List ℕ) → Type 0) (Became : List ℕ → Type 0) : Type 0 where
  pub text : List ℕ
  pub told : IsAllTold Told (Some text) Became

-- a write failed (60), and what is written is cut after so many bytes
pub record IsToldCut (Told : Option (List ℕ) → Type 0) (cut : List ℕ → ℕ → Type 0) (number : ℕ)
    : Type 0 where
  pub number_is : number ≡ 60
  pub told : Option (List ℕ)
  pub written : ℕ
  pub stopped : IsAllTold Told told (λ text. cut text written)

-- the report on what is told
abbrev pub IsTellingReport : (Option (List ℕ) → Type 0) → (ℕ → Type 0) → Type 0
    → (List ℕ → Type 0) → (List ℕ → ℕ → Type 0) → Report → Type 0
IsTellingReport Told Lacks kept wrote cut Done = IsAllTold Told None wrote
IsTellingReport Told Lacks kept wrote cut No = ⊥
IsTellingReport Told Lacks kept wrote cut (Driven refused) = ⊥
IsTellingReport Told Lacks kept wrote cut (Ran stats) = ⊥
IsTellingReport Told Lacks kept wrote cut Explained = SomeTold Told wrote
IsTellingReport Told Lacks kept wrote cut (Refused number place) = ⊥
IsTellingReport Told Lacks kept wrote cut (Fault number) =
    (Lacks number × kept) ⊎ IsToldCut Told cut number
IsTellingReport Told Lacks kept wrote cut Misused = ⊥

-- a write failed (60), and some text is cut after so many bytes
pub record IsStoryCut (cut : List ℕ → ℕ → Type 0) (number : ℕ) : Type 0 where
  pub number_is : number ≡ 60
  pub written : ℕ
  pub stopped : SomeText (λ text. cut text written)

-- the report where a number is explained at length: some text is written, which may say that nothing has this number
abbrev pub IsStoryReport : (List ℕ → Type 0) → (List ℕ → ℕ → Type 0) → Report → Type 0
IsStoryReport wrote cut Done = SomeText wrote
IsStoryReport wrote cut No = ⊥
IsStoryReport wrote cut (Driven refused) = ⊥
IsStoryReport wrote cut (Ran stats) = ⊥
IsStoryReport wrote cut Explained = SomeText wrote
IsStoryReport wrote cut (Refused number place) = ⊥
IsStoryReport wrote cut (Fault number) = IsStoryCut cut number
IsStoryReport wrote cut Misused = ⊥

-- what is named is a number
abbrev pub is_number : List ℕ → Bool
is_number name = list_all is_digit name

-- The report of `explain`, where the output was kept, a text was written to it, or a write failed
-- after so many bytes of a text. A name of digits alone is a number of which is told at length.
abbrev pub IsExplainReport : (List ℕ → List ℕ → Type 0) → (List ℕ → Type 0) → List ℕ
    → Option (List ℕ) → Option (List ℕ) → Option (List ℕ) → Type 0 → (List ℕ → Type 0)
    → (List ℕ → ℕ → Type 0) → Report → Type 0
IsExplainReport has lacks source table steps actions kept wrote cut report =
    ((is_number source ≡ true) × IsStoryReport wrote cut report)
    ⊎ ((is_number source ≡ false)
    × IsTellingReport (AllTold has source table steps actions)
    (LacksAny has lacks source table steps actions) kept wrote cut report)
