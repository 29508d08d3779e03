-- One turn after another.
use Rattle.std.specs.Prelude.{ℕ, ◌+◌, nat_le, nat_lt, Option, None, Some, if◌then◌else◌}
use Rattle.task_seed.specs.declared.turns.Turn.{Turn}
use Rattle.task_seed.specs.Turning.{System, most_turns}

-- the tick of a turn that comes after a tick, up to the horizon
abbrev pub tick_with : ℕ → ℕ → Option Turn → Option ℕ
tick_with horizon tick None = None
tick_with horizon tick (Some turn) = if nat_le (tick + turn.gap) horizon then Some (tick + turn.gap) else None

-- the tick of turn n of component i, from that of the turn before, if that turn exists
abbrev pub tick_after : System → ℕ → ℕ → ℕ → Option ℕ
tick_after s i n tick = if nat_lt n most_turns then tick_with s.horizon tick (s.turn i n) else None
