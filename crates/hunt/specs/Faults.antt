-- Why a hunt ends early.
use Rattle.std.specs.Prelude.{◌≡◌, ◌<◌, ◌⊎◌, ℕ, Option, None}
use Rattle.compose.specs.Composed.{IsComposed, IsRefused}
use Rattle.compose.specs.Refusals.{source_number, source_place}
use Rattle.plans.specs.declared.plan.Plan.{Plan}
use Rattle.task_seed.specs.Refusals.{seed_turns_number, setup_number}
use Rattle.task_seed.specs.declared.seed_turns.SeedTurnsError.{SeedTurnsError}
use Rattle.task_seed.specs.declared.seed_turns.SeedTurnsError.TheVariants.{GapOutOfRange}
use Rattle.task_seed.specs.declared.setup.SetupError.{SetupError}
use Rattle.task_seed.specs.declared.setup.SetupError.TheVariants.{HorizonTooLarge}
use Rattle.trace.specs.declared.fault.WriteFault.{WriteFault}
use Rattle.trace.specs.declared.fault.TraceError.{TraceError}
use Rattle.trace.specs.Puts.{written_of}
use Rattle.trace.specs.Refusals.{fault_number, trace_number, trace_place}
use Rattle.hunt.specs.declared.fault.HuntFault.{HuntFault}
use Rattle.hunt.specs.declared.fault.HuntFault.TheVariants as fault
use Rattle.hunt.specs.declared.wanted.Wanted.{Wanted}
use Rattle.hunt.specs.Seeds.{HasGap, Hunted}
use Rattle.hunt.specs.Wanted.{IsUnwanted, IsWanted}

abbrev pub hunt_number : HuntFault → ℕ
hunt_number fault.NoMemory = 1
hunt_number (fault.Source refusal) = source_number refusal
hunt_number (fault.Turns refusal) = seed_turns_number refusal
hunt_number (fault.Ticks refusal) = setup_number refusal
hunt_number (fault.Action refusal) = trace_number refusal
hunt_number (fault.Write failed) = fault_number failed

abbrev pub hunt_place : HuntFault → Option ℕ
hunt_place fault.NoMemory = None
hunt_place (fault.Source refusal) = source_place refusal
hunt_place (fault.Turns refusal) = None
hunt_place (fault.Ticks refusal) = None
hunt_place (fault.Action refusal) = trace_place refusal
hunt_place (fault.Write failed) = None

-- the source means a plan of which the text names no action
pub record NamesNothing (h : Hunted) (error : TraceError) : Type 0 where
  pub plan : Plan
  pub composed : IsComposed h.source plan
  pub unwanted : IsUnwanted plan h.action error

-- the source means a plan, and the text names actions of it
pub record NamesSome (h : Hunted) : Type 0 where
  pub plan : Plan
  pub wanted : Wanted
  pub composed : IsComposed h.source plan
  pub named : IsWanted plan h.action wanted

-- there are such actions, and the greatest gap isn't 1 to 65,535
pub record IsBadGap (h : Hunted) (error : SeedTurnsError) : Type 0 where
  pub named : NamesSome h
  pub outside : (h.course.gap < 1) ⊎ (65535 < h.course.gap)
  pub is : error ≡ GapOutOfRange

-- there are such actions, the gap is in its range, and the last tick is above 4,294,967,296
pub record IsTooLong (h : Hunted) (error : SetupError) : Type 0 where
  pub named : NamesSome h
  pub gap : HasGap h.course
  pub long : 4294967296 < h.course.ticks
  pub is : error ≡ HorizonTooLarge

-- Why a hunt ends: what was there is kept, or a write failed and the text is cut. The source is
-- judged first, then the action, the gap and the last tick.
abbrev pub IsUnhunted : Hunted → Type 0 → (WriteFault → Type 0) → HuntFault → Type 0
IsUnhunted h kept cut fault.NoMemory = kept
IsUnhunted h kept cut (fault.Source refusal) = IsRefused h.source refusal × kept
IsUnhunted h kept cut (fault.Action refusal) = NamesNothing h refusal × kept
IsUnhunted h kept cut (fault.Turns refusal) = IsBadGap h refusal × kept
IsUnhunted h kept cut (fault.Ticks refusal) = IsTooLong h refusal × kept
IsUnhunted h kept cut (fault.Write failed) = cut failed

-- why a seed isn't looked at, where nothing is written
abbrev pub IsUnseen : Hunted → HuntFault → Type 0
IsUnseen h = IsUnhunted h (Unit {0}) (λ failed. ⊥)

-- the fault is a failed write, after so many bytes that this holds
abbrev pub IsStoppedBy : (ℕ → Type 0) → HuntFault → Type 0
IsStoppedBy Stopped fault.NoMemory = ⊥
IsStoppedBy Stopped (fault.Source refusal) = ⊥
IsStoppedBy Stopped (fault.Turns refusal) = ⊥
IsStoppedBy Stopped (fault.Ticks refusal) = ⊥
IsStoppedBy Stopped (fault.Action refusal) = ⊥
IsStoppedBy Stopped (fault.Write failed) = Stopped (written_of failed)
