-- A component's clock, where its next turn is done.
use Rattle.std.proofs.Common.{◌≡◌, ℕ, suc, ◌+◌, Option, subst, arith}
use Rattle.task_seed.specs.ClockLaws.{reached_on}
use Rattle.task_seed.specs.Clocks.{HasReached, Reaching}
use Rattle.task_seed.specs.declared.clock.Clock.{Clock}
use Rattle.task_seed.specs.declared.setup.Setup.{Setup}
use Rattle.task_seed.specs.declared.turns.Turn.{Turn}

module _ {T : Type 0} (turn_of : T → ℕ → ℕ → Option Turn) (setup : Setup T) (i : ℕ) where
  -- the turn after the one that is done was reached, and that one stays so
  pub both_reached : (n k : ℕ) (old new : Clock) → k ≡ n → HasReached turn_of setup i old n → Reaching turn_of setup old.component old (k + 1) new
      → HasReached turn_of setup i new n × HasReached turn_of setup i new (suc n)
  both_reached n k old new same h reaching =
      let at = subst (λ j. Reaching turn_of setup j old (k + 1) new) h.reached.own.component reaching in
      let both = reached_on turn_of setup i old new n (k + 1) (omega (arith, same)) h at in
      let next : k + 1 ≡ suc n = omega (arith, same) in
      (both.0, subst (HasReached turn_of setup i new) next both.1)
