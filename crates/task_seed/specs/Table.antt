-- What a table file says.
use Rattle.std.specs.Prelude.{◌≡◌, ℕ, ◌+◌, ◌^◌, ◌<◌, ◌==◌, if◌then◌else◌, List, [], ◌∷◌, ◌++◌, map, length, All, decimal}
use Rattle.std.specs.List.{onto_first, join_with_byte}
use Rattle.task_seed.specs.declared.table.Row.{Row}

-- the lines of a text: each ends with a line feed, which the last one may lack
abbrev pub lines_of : List ℕ → List (List ℕ)
lines_of [] = []
lines_of (b ∷ bs) = if b == 10 then [] ∷ lines_of bs else onto_first b (lines_of bs)

-- the line of a row: its four numbers in decimal, one space between them
abbrev pub spelled : Row → List ℕ
spelled row = join_with_byte 32 (map decimal (row.component ∷ row.gap ∷ row.task ∷ row.choice ∷ []))

-- the numbers of a row are in the ranges of a table
pub record IsInRange (row : Row) : Type 0 where
  pub component : row.component < 2 ^ 64
  pub gap : row.gap < 2 ^ 32
  pub task : row.task < 2 ^ 32
  pub choice : row.choice < 2 ^ 32

-- the line is that of some row
pub record IsRow (line : List ℕ) : Type 0 where
  pub row : Row
  pub in_range : IsInRange row
  pub is : line ≡ spelled row

-- line n, counted from 1, is the first that is no row's: n - 1 rows stand before it
pub record IsFirstBadLine (bytes : List ℕ) (n : ℕ) : Type 0 where
  pub rows : List Row
  pub line : List ℕ
  pub later : List (List ℕ)
  pub split : lines_of bytes ≡ map spelled rows ++ line ∷ later
  pub in_range : All IsInRange rows
  pub counted : length rows + 1 ≡ n
  pub bad : IsRow line → ⊥
