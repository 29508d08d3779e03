-- The turns of a seed or of a table.
use Rattle.std.specs.Prelude.{ℕ, Option}
use Rattle.task_seed.specs.declared.turns.Turn.{Turn}
use Rattle.task_seed.specs.declared.any_turns.AnyTurns.{AnyTurns}
use Rattle.task_seed.specs.declared.any_turns.AnyTurns.TheVariants.{Seed, Table}
use Rattle.task_seed.specs.Drawn.{seed_turn}
use Rattle.task_seed.specs.Given.{table_turn}

-- turn n of component i: that of the turns inside
abbrev pub any_turn : AnyTurns → ℕ → ℕ → Option Turn
any_turn (Seed turns) = seed_turn turns
any_turn (Table turns) = table_turn turns
