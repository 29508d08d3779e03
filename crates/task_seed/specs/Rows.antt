-- The turns that rows stand for.
use Rattle.std.specs.Prelude.{ℕ, ◌==◌, List, [], map, filter, Option, None, Some, slice_get}
use Rattle.std.specs.declared.vec.Vec.{Vec}
use Rattle.task_seed.specs.declared.table.Row.{Row}
use Rattle.task_seed.specs.declared.turns.Turn.{Turn}

-- the turn of a row
abbrev pub turn_of_row : Row → Turn
turn_of_row row = record { gap = row.gap; task = row.task; choice = row.choice }

-- the turns of component i: its rows, in order
abbrev pub turns_of : List Row → ℕ → List Turn
turns_of rows i = map turn_of_row (filter (λ row. row.component == i) rows)

-- the turns in a list of turns, if there is one
abbrev pub turns_in : {A : Type 0} → Option (Vec Turn A) → List Turn
turns_in None = []
turns_in (Some turns) = turns.items

-- the turns in list i
abbrev pub turns_at : {A : Type 0} → List (Vec Turn A) → ℕ → List Turn
turns_at lists i = turns_in (slice_get lists i)
