-- What a clock has reached, where it reaches on or stays.
use Rattle.std.specs.Prelude.{◌≡◌, ℕ, ◌+◌, ◌≤◌, max, Bool, true, false, if◌then◌else◌, Option, None, Some, IsSome, []}
use Rattle.std.proofs.Common.{arith, ap, refl, sym, subst, ◌∙◌}
use Rattle.task_seed.specs.declared.clock.Clock.{Clock}
use Rattle.task_seed.specs.declared.setup.Setup.{Setup}
use Rattle.task_seed.specs.declared.turns.Turn.{Turn}
use Rattle.task_seed.specs.Clocks.{AreKept, HasReached, IsOwnTurn, ReachedNone, Reaching}
use Rattle.task_seed.specs.Setups.{system}
use Rattle.task_seed.specs.Ticks.{has_parts}
use Rattle.task_seed.specs.Turning.{System, has_turns, key_at, key_of, ticks}

-- no turn has so great a number
beyond : (s : System) (i n : ℕ) → 4294967296 ≤ n → IsSome (key_of s i n) → ⊥
beyond s i n late some = go (has_turns s i (n + 1)) refl some where
  go : (there : Bool) → has_turns s i (n + 1) ≡ there → IsSome (if there then Some (key_at i n (ticks s i (n + 1))) else None) → ⊥
  go true h some = let few = (has_parts s i (n + 1) h).few in omega (arith, few, late)
  go false h some = cc

module _ {T : Type 0} (turn_of : T → ℕ → ℕ → Option Turn) (setup : Setup T) (i : ℕ) where
  -- it has reached the turns before one that it has reached
  pub reached_before : (clock : Clock) (k n : ℕ) → k ≤ n → HasReached turn_of setup i clock n → HasReached turn_of setup i clock k
  reached_before clock k n low h = record { last = h.last; within = let w = h.within in omega (arith, low, w); reached = h.reached }

  -- where turn n was reached, it stays so, and the turn that is reached is too
  pub reached_on : (old new : Clock) (m n : ℕ) → n ≤ m + 1 → HasReached turn_of setup i old m → Reaching turn_of setup i old n new
      → HasReached turn_of setup i new m × HasReached turn_of setup i new n
  reached_on old new m n next h reaching =
      let w = h.within in
      let reached = reaching.further h.last (omega (arith, w, next)) h.reached in (
        record { last = max h.last n; within = omega (arith, w); reached = reached },
        record { last = max h.last n; within = omega arith; reached = reached },
      )

  -- the first turn is reached
  reached_first : (old new : Clock) → ReachedNone turn_of setup i old → Reaching turn_of setup i old 0 new → HasReached turn_of setup i new 0
  reached_first old new none reaching = record { last = 0; within = omega arith; reached = reaching.first refl none }

  -- a clock that keeps the same ticks has reached the same turns
  pub reached_same : (old new : Clock) (n : ℕ) → new ≡ record old { ticks = new.ticks } → new.ticks.items ≡ old.ticks.items → HasReached turn_of setup i old n → HasReached turn_of setup i new n
  reached_same old new n same ticks h =
      let component : new.component ≡ old.component = ap (λ (c : Clock). c.component) same in
      let read : new.read ≡ old.read = ap (λ (c : Clock). c.read) same in
      record {
        last = h.last;
        within = h.within;
        reached = record {
          own = record {
            component = component ∙ h.reached.own.component;
            read = subst (IsOwnTurn turn_of setup i) (sym read) h.reached.own.read;
          };
          tasks = ap (λ (c : Clock). c.tasks) same ∙ h.reached.tasks;
          kept = subst (AreKept (system turn_of setup) i h.last) (sym ticks) h.reached.kept;
        };
      }

  -- and so has one whose walk alone is another
  pub reached_walked : (old new : Clock) (n : ℕ) → new ≡ record old { walk = new.walk } → HasReached turn_of setup i old n → HasReached turn_of setup i new n
  reached_walked old new n same h =
      subst (λ clock. HasReached turn_of setup i clock n) (sym same)
      (record {
        last = h.last;
        within = h.within;
        reached = record {
          own = record { component = h.reached.own.component; read = h.reached.own.read };
          tasks = h.reached.tasks;
          kept = h.reached.kept;
        };
      })

  -- a new clock has reached nothing
  none_reached : (clock : Clock) → clock.component ≡ i → clock.ticks.items ≡ [] → clock.read.number ≡ 18446744073709551615 → ReachedNone turn_of setup i clock
  none_reached clock component ticks read = record {
    own = record { component = component; read = λ some. absurd (beyond (system turn_of setup) i clock.read.number (omega (arith, read)) some) };
    none = ticks;
  }

  -- the first turn was reached
  pub first_reached : (old new : Clock) → old.component ≡ i → old.ticks.items ≡ [] → old.read.number ≡ 18446744073709551615 → Reaching turn_of setup old.component old 0 new → HasReached turn_of setup i new 0
  first_reached old new component ticks read reaching =
      reached_first old new (none_reached old component ticks read) (subst (λ j. Reaching turn_of setup j old 0 new) component reaching)
