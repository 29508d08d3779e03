-- The laws of the turns of a seed or of a table: those of each kind.
use Rattle.std.specs.Prelude.{◌≡◌, ℕ, ◌+◌, ◌≤◌, Bool, true, false, None, Some}
use Rattle.task_seed.specs.declared.turns.Turn.{Turn}
use Rattle.task_seed.specs.declared.any_turns.AnyTurns.{AnyTurns}
use Rattle.task_seed.specs.declared.any_turns.AnyTurns.TheVariants.{Seed, Table}
use Rattle.task_seed.specs.contracts.any_turns.AnyTurnsPartialEq.TheImpl as any_eq
use Rattle.task_seed.specs.contracts.seed_turns.SeedTurnsPartialEq.TheImpl as seed_eq
use Rattle.task_seed.specs.contracts.table_turns.TableTurnsPartialEq.TheImpl as table_eq
use Rattle.task_seed.specs.Any.{any_turn}
use Rattle.task_seed.specs.DrawnLaws.{seed_alike, seed_ended, seed_gap_range}
use Rattle.task_seed.specs.GivenLaws.{table_alike, table_ended, table_gap_range}

pub any_gap_range : (t : AnyTurns) (i n : ℕ) (turn : Turn) → any_turn t i n ≡ Some turn
    → turn.gap ≤ 65535
any_gap_range (Seed turns) i n turn e = seed_gap_range turns i n turn e
any_gap_range (Table turns) i n turn e = table_gap_range turns i n turn e

-- whether two are of one kind, and equal
abbrev pub same_any : AnyTurns → AnyTurns → Bool
same_any (Seed a) (Seed b) = seed_eq.ghosts.eq a b
same_any (Seed a) (Table b) = false
same_any (Table a) (Seed b) = false
same_any (Table a) (Table b) = table_eq.ghosts.eq a b

pub any_alike : (s t : AnyTurns) → any_eq.ghosts.eq s t ≡ true
    → (i n : ℕ) → any_turn s i n ≡ any_turn t i n
any_alike (Seed a) (Seed b) h i n = seed_alike a b h i n
any_alike (Seed a) (Table b) h i n = cc
any_alike (Table a) (Seed b) h i n = cc
any_alike (Table a) (Table b) h i n = table_alike a b h i n

pub any_ended : (t : AnyTurns) (i n : ℕ) → any_turn t i n ≡ None → any_turn t i (n + 1) ≡ None
any_ended (Seed turns) i n h = seed_ended turns i n h
any_ended (Table turns) i n h = table_ended turns i n h
