-- The turns of a simulation and their keys.
use Rattle.std.specs.Prelude.{◌≡◌, ◌≤◌, true, ℕ, ◌+◌, ◌%◌, ◌==◌, ◌&&◌, nat_le, Bool, Option, None, Some, is_some, List, map, sum_by, option_map, if◌then◌else◌}
use Rattle.std.specs.List.{range_with_len, list_all}
use Rattle.io_automata.specs.Automata.{Instance}
use Rattle.io_automata.specs.Outcomes.{task_count}
use Rattle.event_keys.specs.declared.key.Key.{Key}
use Rattle.task_seed.specs.declared.turns.Turn.{Turn}

-- what a simulation runs: a composition, the turns of its components, and the last tick
pub record System : Type 0 where
  pub composition : List Instance
  pub turn : ℕ → ℕ → Option Turn
  pub horizon : ℕ

-- the first n turns of component i, as far as there are so many
abbrev pub first_turns : System → ℕ → ℕ → List (Option Turn)
first_turns s i n = map (s.turn i) (range_with_len 0 n)

-- the gap of a turn
abbrev pub gap_of : Option Turn → ℕ
gap_of None = 0
gap_of (Some turn) = turn.gap

-- the sum of the gaps of the first n turns: the tick of the last of them
abbrev pub ticks : System → ℕ → ℕ → ℕ
ticks s i n = sum_by gap_of (first_turns s i n)

-- how many turns a component has at most
abbrev pub most_turns : ℕ
most_turns = 4294967296

-- component i has n turns or more: the first n are there, with ticks up to the horizon, and aren't more than a component may have
abbrev pub has_turns : System → ℕ → ℕ → Bool
has_turns s i n = list_all is_some (first_turns s i n) && (nat_le (ticks s i n) s.horizon && nat_le n most_turns)

-- the key of turn n of component i, at a tick
abbrev pub key_at : ℕ → ℕ → ℕ → Key
key_at i n tick = record { tick = tick; component = i; number = n }

-- the key of turn n of component i, if that turn exists
abbrev pub key_of : System → ℕ → ℕ → Option Key
key_of s i n = if has_turns s i (n + 1) then Some (key_at i n (ticks s i (n + 1))) else None

-- component i has n turns or more, and this is the tick of the last of the first n, or 0 where n is 0
pub record Reaches (s : System) (i n tick : ℕ) : Type 0 where
  pub exist : list_all is_some (first_turns s i n) ≡ true
  pub sum : tick ≡ ticks s i n
  pub within : tick ≤ s.horizon
  pub few : n ≤ most_turns

-- a number below the number of the tasks, 0 where there is none
abbrev pub task_below : ℕ → ℕ → ℕ
task_below tasks task = if tasks == 0 then 0 else task % tasks

-- a turn, its task below the number of the tasks
abbrev pub with_task_below : ℕ → Turn → Turn
with_task_below tasks turn = record turn { task = task_below tasks turn.task }

-- turn n of component i, its task one of the component's, if that turn exists
abbrev pub turn_in : System → ℕ → ℕ → Option Turn
turn_in s i n = if has_turns s i (n + 1) then option_map (with_task_below (task_count s.composition i)) (s.turn i n) else None
