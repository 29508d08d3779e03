-- A clock that reaches one turn after another.
use Rattle.std.proofs.Common.{◌≡◌, ℕ, ◌+◌, inl, inr, Option, sym, subst, arith}
use Rattle.std.specs.Prelude.{max}
use Rattle.task_seed.specs.Clocks.{CanReach, HasReached, IsPast, Reaching}
use Rattle.task_seed.specs.declared.clock.Clock.{Clock}
use Rattle.task_seed.specs.declared.setup.Setup.{Setup}
use Rattle.task_seed.specs.declared.turns.Turn.{Turn}

module _ {T : Type 0} (turn_of : T → ℕ → ℕ → Option Turn) (setup : Setup T) (i : ℕ) where
  component_of : (clock : Clock) (n : ℕ) → CanReach turn_of setup i clock n → clock.component ≡ i
  component_of clock n (inl none) = none.0.own.component
  component_of clock n (inr past) = past.reached.own.component

  past_of : (old new : Clock) (n : ℕ) → CanReach turn_of setup i old n → Reaching turn_of setup i old n new → IsPast turn_of setup i new (n + 1)
  past_of old new n (inl none) reaching = let zero = none.1 in record { last = 0; within = omega (arith, zero); reached = reaching.first none.1 none.0 }
  past_of old new n (inr past) reaching = record { last = max past.last n; within = omega arith; reached = reaching.further past.last past.within past.reached }

  -- the next turn can be reached
  pub next_can_be : (old new : Clock) (n : ℕ) → CanReach turn_of setup i old n → Reaching turn_of setup old.component old n new → CanReach turn_of setup i new (n + 1)
  next_can_be old new n can reaching = inr (past_of old new n can (subst (λ j. Reaching turn_of setup j old n new) (component_of old n can) reaching))

  pub own_can : (clock : Clock) (n : ℕ) → CanReach turn_of setup i clock n → CanReach turn_of setup clock.component clock n
  own_can clock n can = subst (λ j. CanReach turn_of setup j clock n) (sym (component_of clock n can)) can

  -- the last one was
  pub last_was : (clock : Clock) (n last : ℕ) → n ≡ last + 1 → CanReach turn_of setup i clock n → HasReached turn_of setup i clock last
  last_was clock n last next (inl none) = absurd (let zero = none.1 in omega (arith, zero, next))
  last_was clock n last next (inr past) = let w = past.within in record { last = past.last; within = omega (arith, w, next); reached = past.reached }
