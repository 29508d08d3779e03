-- Refused sources: the number of a refusal, and the token at which it stands.
use Rattle.std.specs.Prelude.{◌≡◌, ◌<◌, ◌≤◌, ℕ, Option, None, Some, [], length}
use Rattle.ioa_trees.specs.Faults.{IsLeast}
use Rattle.ioa_trees.specs.SourceRules.{MeantSource, source_faults, source_meaning}
use Rattle.ioa_front.specs.Reading.{IsReadable, most_bytes}
use Rattle.ioa_trees.specs.Spelling.{spell}
use Rattle.ioa_trees.specs.Trees.{PlainSource}
use Rattle.ioa_check.specs.declared.fault.CheckError.{CheckError}
use Rattle.ioa_check.specs.declared.fault.CheckError.TheVariants as fault

abbrev pub check_number : CheckError → ℕ
check_number fault.NoMemory = 1
check_number (fault.UnknownName at) = 10
check_number (fault.DoubleName at) = 11
check_number (fault.WrongType at) = 12
check_number (fault.NoTransition at) = 13
check_number (fault.DoubleTransition at) = 14
check_number (fault.InputWithPre at) = 15
check_number (fault.TasksNotAPartition at) = 16
check_number (fault.OverLimit at) = 17

abbrev pub check_place : CheckError → Option ℕ
check_place fault.NoMemory = None
check_place (fault.UnknownName at) = Some at
check_place (fault.DoubleName at) = Some at
check_place (fault.WrongType at) = Some at
check_place (fault.NoTransition at) = Some at
check_place (fault.DoubleTransition at) = Some at
check_place (fault.InputWithPre at) = Some at
check_place (fault.TasksNotAPartition at) = Some at
check_place (fault.OverLimit at) = Some at

-- A refusal with a place is the least fault of the source; one without is want of memory, of which nothing is said.
abbrev pub Refuses : PlainSource → ℕ → Option ℕ → Type 0
Refuses x number None = number ≡ 1
Refuses x number (Some at) = IsLeast (record { place = at; number = number }) (source_faults x)

abbrev pub IsRefused : PlainSource → CheckError → Type 0
IsRefused x e = Refuses x (check_number e) (check_place e)

-- It is the meaning of a source that is readable, has few tokens and an automaton beside the composed one, and has no fault.
pub record IsMeant (m : MeantSource) : Type 0 where
  pub source : PlainSource
  pub readable : IsReadable source
  pub few : length (spell source) ≤ most_bytes
  pub some : 0 < length source.automata
  pub faultless : source_faults source ≡ []
  pub same : m ≡ source_meaning source
