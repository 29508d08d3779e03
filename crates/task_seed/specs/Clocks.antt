-- Clocks: which ticks of a component's turns are kept, and which turn was read last.
use Rattle.std.specs.Prelude.{◌≡◌, ℕ, ◌+◌, ◌*◌, ◌/◌, ◌%◌, ◌<◌, ◌≤◌, ◌==◌, ◌&&◌, ◌⊎◌, max, nat_le, Bool, true, if◌then◌else◌, Option, None, Some, IsSome, option_map, List, [], length, slice_get, vec_capacity, vec_len}
use Rattle.event_keys.specs.declared.key.Key.{Key}
use Rattle.event_keys.specs.Ranks.{rank}
use Rattle.io_automata.specs.Outcomes.{task_count}
use Rattle.plans.specs.Plans.{composition}
use Rattle.task_seed.specs.declared.clock.Clock.{Clock}
use Rattle.task_seed.specs.declared.clock.NumberedTurn.{NumberedTurn}
use Rattle.task_seed.specs.declared.setup.Setup.{Setup}
use Rattle.task_seed.specs.declared.turns.Turn.{Turn}
use Rattle.task_seed.specs.Machines.{end_rank}
use Rattle.task_seed.specs.Setups.{plan_of, system}
use Rattle.task_seed.specs.Turning.{System, key_of, turn_in}

-- a key that may be that of a turn
abbrev pub IsTurnKey : Key → Type 0
IsTurnKey key = (key.number < 4294967296) × (rank key < end_rank)

-- the tick of turn n of component i, if that turn exists
abbrev pub tick_of : System → ℕ → ℕ → Option ℕ
tick_of s i n = option_map (λ (key : Key). key.tick) (key_of s i n)

-- the ticks of the turns 0, 256, 512 and so on of component i up to turn n, as far as they exist
abbrev pub AreKept : System → ℕ → ℕ → List ℕ → Type 0
AreKept s i n ticks = (k : ℕ) → slice_get ticks k ≡ (if nat_le (256 * k) n then tick_of s i (256 * k) else None)

-- the tick of turn n is to be kept, and isn't
abbrev pub is_due : List ℕ → ℕ → Bool
is_due ticks n = (n % 256 == 0) && nat_le (length ticks) (n / 256)

-- there is room for the tick of turn n, if it is to be kept
abbrev pub HasRoom : Clock → ℕ → Type 0
HasRoom clock n = is_due clock.ticks.items n ≡ true → vec_len clock.ticks < vec_capacity clock.ticks

-- the clock knows how many tasks component i has
abbrev pub KnowsTasks : {T : Type 0} → Setup T → ℕ → Clock → Type 0
KnowsTasks setup i clock = clock.tasks ≡ task_count (composition (plan_of setup)) i

-- of component i of a setup whose turns are read by turn_of
module _ {T : Type 0} (turn_of : T → ℕ → ℕ → Option Turn) (setup : Setup T) (i : ℕ) where
  -- where the component has a turn of this number, it is this one
  abbrev pub IsOwnTurn : NumberedTurn → Type 0
  IsOwnTurn read = IsSome (key_of (system turn_of setup) i read.number)
      → Some read.turn ≡ turn_in (system turn_of setup) i read.number

  -- the clock is the component's, and what it read is a turn of it
  pub record IsClock (clock : Clock) : Type 0 where
    pub component : clock.component ≡ i
    pub read : IsOwnTurn clock.read

  -- it reached no turn
  pub record ReachedNone (clock : Clock) : Type 0 where
    pub own : IsClock clock
    pub none : clock.ticks.items ≡ []

  -- it reached turn n, and none after it
  pub record Reached (clock : Clock) (n : ℕ) : Type 0 where
    pub own : IsClock clock
    pub tasks : KnowsTasks setup i clock
    pub kept : AreKept (system turn_of setup) i n clock.ticks.items

  -- it reached turn n, and perhaps later ones
  pub record HasReached (clock : Clock) (n : ℕ) : Type 0 where
    pub last : ℕ
    pub within : n ≤ last
    pub reached : Reached clock last

  -- the last turn that it reached is one before turn n, or none is: later ones are the rest
  pub record IsPast (clock : Clock) (n : ℕ) : Type 0 where
    pub last : ℕ
    pub within : n ≤ last + 1
    pub reached : Reached clock last

  -- turn n is the first, where none was reached, or at most one after the last that was reached
  abbrev pub CanReach : Clock → ℕ → Type 0
  CanReach clock n = (ReachedNone clock × (n ≡ 0)) ⊎ IsPast clock n

  -- what reaching turn n makes of a clock
  pub record Reaching (old : Clock) (n : ℕ) (new : Clock) : Type 0 where
    pub first : n ≡ 0 → ReachedNone old → Reached new 0
    pub further : (last : ℕ) → n ≤ last + 1 → Reached old last → Reached new (max last n)
