-- The faults of rows.
use Rattle.std.specs.Prelude.{◌≡◌, ℕ, ◌+◌, ◌<◌, ◌≤◌, ◌⊎◌, max, Option, Some, List, ◌∷◌, ◌++◌, length, All}
use Rattle.io_automata.specs.Automata.{Instance}
use Rattle.io_automata.specs.Outcomes.{task_count}
use Rattle.task_seed.specs.declared.table.Row.{Row}

-- the gap isn't 0 to 65,535
abbrev pub IsGapOutOfRange : Row → Type 0
IsGapOutOfRange row = 65535 < row.gap

-- the component exists and hasn't the task; one that has no tasks takes task 0
abbrev pub IsTaskOutOfRange : List Instance → Row → Type 0
IsTaskOutOfRange composition row = (row.component < length composition) × (max (task_count composition row.component) 1 ≤ row.task)

-- the component doesn't exist
abbrev pub IsOfNoComponent : List Instance → Row → Type 0
IsOfNoComponent composition row = length composition ≤ row.component

-- the row has the fault of this number
abbrev pub HasFault : List Instance → Row → ℕ → Type 0
HasFault composition row number =
    ((number ≡ 27) × IsGapOutOfRange row) ⊎ (((number ≡ 28) × IsTaskOutOfRange composition row) ⊎ ((number ≡ 30) × IsOfNoComponent composition row))

-- the first row with a fault stands on this line, counted from 1, and its fault of the least number has this number
pub record IsFirstFault (composition : List Instance) (rows : List Row) (number : ℕ) (line : Option ℕ) : Type 0 where
  pub before : List Row
  pub row : Row
  pub after : List Row
  pub split : rows ≡ before ++ row ∷ after
  pub sound : All (λ r. (n : ℕ) → HasFault composition r n → ⊥) before
  pub counted : line ≡ Some (length before + 1)
  pub has : HasFault composition row number
  pub least : (n : ℕ) → HasFault composition row n → number ≤ n
