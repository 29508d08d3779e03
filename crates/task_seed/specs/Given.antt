-- The turns that a table gives.
use Rattle.std.specs.Prelude.{ℕ, Option, slice_get}
use Rattle.task_seed.specs.declared.turns.Turn.{Turn}
use Rattle.task_seed.specs.declared.table_turns.TableTurns.{TableTurns}
use Rattle.task_seed.specs.Rows.{turns_at}

-- turn n of component i
abbrev pub table_turn : TableTurns → ℕ → ℕ → Option Turn
table_turn t i n = slice_get (turns_at t.turns.items i) n
