-- When a table is accepted for a composition, and when it is refused.
use Rattle.std.specs.Prelude.{◌≡◌, ◌⊎◌, ℕ, Option, Some, List, map, All}
use Rattle.io_automata.specs.Automata.{Instance}
use Rattle.task_seed.specs.declared.table.Row.{Row}
use Rattle.task_seed.specs.Table.{lines_of, spelled, IsInRange, IsFirstBadLine}
use Rattle.task_seed.specs.Faults.{HasFault, IsFirstFault}

-- Each line of the file is the spelling of one of these rows, whose numbers are in range.
pub record AreRows (table : List ℕ) (rows : List Row) : Type 0 where
  pub spelling : lines_of table ≡ map spelled rows
  pub in_range : All IsInRange rows

-- no row has a fault
abbrev pub AreSound : List Instance → List Row → Type 0
AreSound composition rows = All (λ row. (number : ℕ) → HasFault composition row number → ⊥) rows

-- a line is no row
pub record IsBadTable (table : List ℕ) (number : ℕ) (place : Option ℕ) : Type 0 where
  pub line : ℕ
  pub number_is : number ≡ 29
  pub place_is : place ≡ Some line
  pub first : IsFirstBadLine table line

-- all lines are rows, and one has a fault
pub record HasBadRow (composition : List Instance) (table : List ℕ) (number : ℕ) (place : Option ℕ) : Type 0 where
  pub rows : List Row
  pub are : AreRows table rows
  pub first : IsFirstFault composition rows number place

-- the file is refused with this number at this line
abbrev pub IsRefused : List Instance → List ℕ → ℕ → Option ℕ → Type 0
IsRefused composition table number place = IsBadTable table number place ⊎ HasBadRow composition table number place
