-- The components' clocks.
use Rattle.std.specs.Prelude.{◌≡◌, ℕ, Option, Some, List, length, slice_get, slice_index_or}
use Rattle.plans.specs.Plans.{composition}
use Rattle.task_seed.specs.declared.clock.Clock.{Clock}
use Rattle.task_seed.specs.declared.setup.Setup.{Setup}
use Rattle.task_seed.specs.declared.turns.Turn.{Turn}
use Rattle.task_seed.specs.Clocks.{HasReached}
use Rattle.task_seed.specs.Setups.{plan_of}

-- of a setup whose turns are read by turn_of
module _ {T : Type 0} (turn_of : T → ℕ → ℕ → Option Turn) (setup : Setup T) where
  -- one clock for each component, which has reached the turn of this number
  pub record AreClocks (numbers : List ℕ) (clocks : List Clock) : Type 0 where
    pub many : length clocks ≡ length (composition (plan_of setup))
    pub each : (i : ℕ) (clock : Clock) → slice_get clocks i ≡ Some clock → HasReached turn_of setup i clock (slice_index_or numbers i 0)
