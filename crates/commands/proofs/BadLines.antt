-- Tables of rows have no bad line.
use Rattle.std.proofs.Common.{◌≡◌, ℕ, List, [], ◌∷◌, ◌++◌, map, ◌∙◌, sym}
use Rattle.std.specs.List.{All}
use Rattle.std.proofs.lemmas.List.Elements.{All-head, All-tail}
use Rattle.task_seed.specs.declared.table.Row.{Row}
use Rattle.task_seed.specs.Table.{spelled, IsInRange, IsRow, IsFirstBadLine}
use Rattle.commands.specs.Tables.{AreRows}

-- the line behind rows is a row, where all lines are
row_behind : (rows before : List Row) (line : List ℕ) (later : List (List ℕ)) → map spelled rows ≡ map spelled before ++ line ∷ later → All IsInRange rows → IsRow line
row_behind [] [] line later same in_range = absurd (cc)
row_behind [] (b ∷ bs) line later same in_range = absurd (cc)
row_behind (r ∷ rs) [] line later same in_range = record { row = r; in_range = All-head IsInRange r rs in_range; is = cc }
row_behind (r ∷ rs) (b ∷ bs) line later same in_range =
    let rest : map spelled rs ≡ map spelled bs ++ line ∷ later = cc in
    row_behind rs bs line later rest (All-tail IsInRange r rs in_range)

pub no_bad_line : (table : List ℕ) (rows : List Row) (n : ℕ) → AreRows table rows → IsFirstBadLine table n → ⊥
no_bad_line table rows n are first = first.bad (row_behind rows first.rows first.line first.later (sym are.spelling ∙ first.split) are.in_range)
