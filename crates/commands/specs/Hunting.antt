-- The report of `hunt`.
use Rattle.std.specs.Prelude.{◌≡◌, ◌⊎◌, ◌+◌, ℕ, Bool, true, false, Option, List}
use Rattle.command_line.specs.declared.hunting.Hunting.{Hunting}
use Rattle.hunt.specs.declared.course.Course.{Course}
use Rattle.hunt.specs.declared.fault.HuntFault.{HuntFault}
use Rattle.hunt.specs.Faults.{IsUnhunted, hunt_number, hunt_place}
use Rattle.hunt.specs.Hunts.{IsAnswered, IsCounted, IsNone, IsTold}
use Rattle.hunt.specs.Seeds.{Hunted, hunted}
use Rattle.trace.specs.Puts.{written_of}
use Rattle.compose.specs.Composed.{front_bytes}
use Rattle.commands.specs.declared.report.Report.{Report}
use Rattle.commands.specs.declared.report.Report.TheVariants.{Done, No, Driven, Ran, Explained, Refused, Fault, Misused}
use Rattle.commands.specs.Parts.{IsLacking}
use Rattle.commands.specs.Reading.{IsReadOf}
use Rattle.commands.specs.Unread.{IsUnread}

-- how turns are drawn from a seed
abbrev pub course_of : Hunting → Course
course_of h = record { stream = h.stream; gap = h.gap; from_zero = h.from_zero; ticks = h.ticks }

-- the first seed that isn't looked at any more
abbrev pub end_of : Hunting → ℕ
end_of h = h.seeds.last + 1

-- the report on whether a seed was found
abbrev pub found_report : Bool → Report
found_report true = Done
found_report false = No

-- the number of the seeds that have the action, or the least of them, was told
abbrev pub IsFoundBy : Bool → Hunted → ℕ → ℕ → (List ℕ → Type 0) → Type 0
IsFoundBy true = IsCounted
IsFoundBy false = IsTold

-- that none has it was told; a number is told in any case
abbrev pub IsNoneBy : Bool → Hunted → ℕ → ℕ → (List ℕ → Type 0) → Type 0
IsNoneBy true h from end Became = ⊥
IsNoneBy false h from end Became = IsNone h from end Became

-- this became of the text that is the answer
abbrev pub IsAnswerBy : Bool → Hunted → ℕ → ℕ → (List ℕ → Type 0) → Type 0
IsAnswerBy true = IsCounted
IsAnswerBy false = IsAnswered

-- a fault with this number and place, of which this holds
pub record EndsBy (Why : HuntFault → Type 0) (number : ℕ) (place : Option ℕ) : Type 0 where
  pub fault : HuntFault
  pub why : Why fault
  pub number_is : number ≡ hunt_number fault
  pub place_is : place ≡ hunt_place fault

-- the report on what is hunted for in a range of seeds, whose number is wanted or the least of them
abbrev pub IsHuntEnd : Bool → Hunted → ℕ → ℕ → Type 0 → (List ℕ → Type 0)
    → (List ℕ → ℕ → Type 0) → Report → Type 0
IsHuntEnd count h from end kept wrote cut Done = IsFoundBy count h from end wrote
IsHuntEnd count h from end kept wrote cut No = IsNoneBy count h from end wrote
IsHuntEnd count h from end kept wrote cut (Driven refused) = ⊥
IsHuntEnd count h from end kept wrote cut (Ran stats) = ⊥
IsHuntEnd count h from end kept wrote cut Explained = ⊥
IsHuntEnd count h from end kept wrote cut (Refused number place) =
    EndsBy (IsUnhunted h kept
    (λ failed. IsAnswerBy count h from end (λ text. cut text (written_of failed)))) number place
IsHuntEnd count h from end kept wrote cut (Fault number) =
    (place : Option ℕ) × EndsBy (IsUnhunted h kept
    (λ failed. IsAnswerBy count h from end (λ text. cut text (written_of failed)))) number place
IsHuntEnd count h from end kept wrote cut Misused = ⊥

-- The report of `hunt` on a source and an action, where the output was kept, a text was written to
-- it, or a write failed after so many bytes of a text.
abbrev pub IsHuntReport : List ℕ → List ℕ → Hunting → Type 0 → (List ℕ → Type 0)
    → (List ℕ → ℕ → Type 0) → Report → Type 0
IsHuntReport source action h =
    IsHuntEnd h.count (hunted source action (course_of h)) h.seeds.first (end_of h)

-- the first bytes of a file, one more than a source may have, are such that this holds
pub record HasFront (has : List ℕ → Type 0) (Judged : List ℕ → Type 0) : Type 0 where
  pub front : List ℕ
  pub is : IsReadOf has front_bytes front
  pub judged : Judged front

-- the report on a source file that isn't read, or on its first bytes
abbrev pub IsHuntFileReport : (List ℕ → Type 0) → Type 0 → List ℕ → Hunting → Type 0
    → (List ℕ → Type 0) → (List ℕ → ℕ → Type 0) → Report → Type 0
IsHuntFileReport has lacks action h kept wrote cut report =
    (IsLacking (IsUnread lacks) report × kept)
    ⊎ HasFront has (λ front. IsHuntReport front action h kept wrote cut report)
