-- What a clock has reached, where one turn more is reached.
use Rattle.std.proofs.Common.{◌≡◌, ℕ, ◌+◌, ◌/◌, ◌%◌, ◌<◌, ◌≤◌, ◌⊎◌, inl, inr, Bool, true, false, List, [], ◌∷◌, ◌++◌, length, Option, None, Some, refl, ap, sym, ◌∙◌, subst, arith}
use Rattle.std.specs.Prelude.{max, nat_le, option_map, option_to_list, ◌&&◌, ◌==◌}
use Rattle.std.proofs.lemmas.Bool.Decides.{nat_tests}
use Rattle.event_keys.specs.declared.key.Key.{Key}
use Rattle.task_seed.specs.Clocks.{AreKept, IsClock, IsOwnTurn, KnowsTasks, Reached, Reaching, is_due, tick_of}
use Rattle.task_seed.specs.declared.clock.Clock.{Clock}
use Rattle.task_seed.specs.declared.setup.Setup.{Setup}
use Rattle.task_seed.specs.declared.turns.Turn.{Turn}
use Rattle.task_seed.specs.Setups.{system}
use Rattle.task_seed.specs.Turning.{key_of}
use Rattle.task_seed.proofs.Keeping.{kept_first, kept_more, kept_none, kept_pushed, not_due, not_due_again}

due_parts : (ticks : List ℕ) (n : ℕ) → is_due ticks n ≡ true → (n % 256 ≡ 0) × (length ticks ≤ n / 256)
due_parts ticks n h = go (n % 256 == 0) refl (nat_le (length ticks) (n / 256)) refl h where
  go : (a : Bool) → (n % 256 == 0) ≡ a → (b : Bool) → nat_le (length ticks) (n / 256) ≡ b → (a && b) ≡ true → (n % 256 ≡ 0) × (length ticks ≤ n / 256)
  go true p true q h = (grind (arith, nat_tests), grind (arith, nat_tests))
  go true p false q h = cc
  go false p b q h = cc

due_by : (ticks : List ℕ) (n : ℕ) → n % 256 ≡ 0 → length ticks ≤ n / 256 → is_due ticks n ≡ true
due_by ticks n p q =
    let a : (n % 256 == 0) ≡ true = grind (arith, nat_tests) in
    let b : nat_le (length ticks) (n / 256) ≡ true = grind (arith, nat_tests) in
    rw (a, b) refl

pub at_most : (a b : ℕ) → (a ≤ b) ⊎ (b < a)
at_most a b = go (nat_le a b) refl where
  go : (t : Bool) → nat_le a b ≡ t → (a ≤ b) ⊎ (b < a)
  go true h = inl (grind (arith, nat_tests))
  go false h = inr (grind (arith, nat_tests))

module _ {T : Type 0} (turn_of : T → ℕ → ℕ → Option Turn) (setup : Setup T) (i : ℕ) where
  reached_as : (old new : Clock) (m : ℕ) → IsClock turn_of setup i new → KnowsTasks setup i new → new.ticks.items ≡ old.ticks.items → AreKept (system turn_of setup) i m old.ticks.items → Reached turn_of setup i new m
  reached_as old new m own tasks same kept = record { own = own; tasks = tasks; kept = subst (AreKept (system turn_of setup) i m) (sym same) kept }

  -- where nothing new is kept, and turn n doesn't exist or isn't one whose tick is kept
  pub reaches_alike : (old new : Clock) (n : ℕ) → (n ≡ 0 → ⊥) → (IsClock turn_of setup i old → IsClock turn_of setup i new) → new.tasks ≡ old.tasks → new.ticks.items ≡ old.ticks.items
      → ((last : ℕ) → n ≡ last + 1 → AreKept (system turn_of setup) i last old.ticks.items → n % 256 ≡ 0 → None ≡ key_of (system turn_of setup) i n) → Reaching turn_of setup i old n new
  reaches_alike old new n some own tasks same none = record { first = λ zero _. absurd (some zero); further = further } where
    further : (last : ℕ) → n ≤ last + 1 → Reached turn_of setup i old last → Reached turn_of setup i new (max last n)
    further last next reached = go (at_most n last) where
      go : (n ≤ last) ⊎ (last < n) → Reached turn_of setup i new (max last n)
      go (inl within) = let most : max last n ≡ last = omega (arith, within) in rw most (reached_as old new last (own reached.own) (tasks ∙ reached.tasks) same reached.kept)
      go (inr past) =
          let one : n ≡ last + 1 = omega (arith, past, next) in
          let most : max last n ≡ n = omega (arith, past) in
          rw most (reached_as old new n (own reached.own) (tasks ∙ reached.tasks) same
          (kept_more (system turn_of setup) i last n old.ticks.items reached.kept (omega (arith, past)) next (λ multiple _. none last one reached.kept multiple)))

  -- where the tick of turn n isn't to be kept
  pub reaches_idle : (old new : Clock) (n : ℕ) → (n ≡ 0 → ⊥) → (IsClock turn_of setup i old → IsClock turn_of setup i new) → new.tasks ≡ old.tasks → new.ticks.items ≡ old.ticks.items
      → is_due old.ticks.items n ≡ false → Reaching turn_of setup i old n new
  reaches_idle old new n some own tasks same idle =
      reaches_alike old new n some own tasks same
      (λ last one kept multiple. absurd (let due = due_by old.ticks.items n multiple (not_due (system turn_of setup) i last n old.ticks.items kept one multiple) in let both : ◌≡◌ {A = Bool} true false = sym due ∙ idle in cc))

  -- where it is to be kept
  pub reaches_kept : (old new : Clock) (n : ℕ) (key : Key) → (n ≡ 0 → ⊥) → (IsClock turn_of setup i old → IsClock turn_of setup i new) → new.tasks ≡ old.tasks → Some key ≡ key_of (system turn_of setup) i n
      → is_due old.ticks.items n ≡ true → new.ticks.items ≡ old.ticks.items ++ key.tick ∷ [] → Reaching turn_of setup i old n new
  reaches_kept old new n key some own tasks is due kept = record { first = λ zero _. absurd (some zero); further = further } where
    parts : (n % 256 ≡ 0) × (length old.ticks.items ≤ n / 256)
    parts = due_parts old.ticks.items n due

    further : (last : ℕ) → n ≤ last + 1 → Reached turn_of setup i old last → Reached turn_of setup i new (max last n)
    further last next reached = go (at_most n last) where
      go : (n ≤ last) ⊎ (last < n) → Reached turn_of setup i new (max last n)
      go (inl within) =
          absurd (let long = not_due_again (system turn_of setup) i last n old.ticks.items key reached.kept within parts.0 is in let short = parts.1 in omega (arith, long, short))
      go (inr past) =
          let one : n ≡ last + 1 = omega (arith, past, next) in
          let most : max last n ≡ n = omega (arith, past) in
          rw most (record {
            own = own reached.own;
            tasks = tasks ∙ reached.tasks;
            kept = subst (AreKept (system turn_of setup) i n) (sym kept) (kept_pushed (system turn_of setup) i last n old.ticks.items key reached.kept one parts.0 parts.1 is);
          })

  -- a clock that only has more room reaches what the one before did
  pub reaches_from : (old mid new : Clock) (n : ℕ) → mid ≡ record old { ticks = mid.ticks } → mid.ticks.items ≡ old.ticks.items → Reaching turn_of setup i mid n new → Reaching turn_of setup i old n new
  reaches_from old mid new n same items reaching = record {
    first = λ zero none. reaching.first zero (record { own = own none.own; none = items ∙ none.none });
    further = λ last next reached.
        reaching.further last next (record { own = own reached.own; tasks = ap (λ (c : Clock). c.tasks) same ∙ reached.tasks; kept = subst (AreKept (system turn_of setup) i last) (sym items) reached.kept });
  } where
    own : IsClock turn_of setup i old → IsClock turn_of setup i mid
    own before = record {
      component = ap (λ (c : Clock). c.component) same ∙ before.component;
      read = subst (IsOwnTurn turn_of setup i) (sym (ap (λ (c : Clock). c.read) same)) before.read;
    }

  -- the first turn, by the key that it has, if there is one
  first_by : (old new : Clock) (first : Option Key) → first ≡ key_of (system turn_of setup) i 0 → (IsClock turn_of setup i old → IsClock turn_of setup i new) → KnowsTasks setup i new → old.ticks.items ≡ []
      → new.ticks.items ≡ option_to_list (option_map (λ (key : Key). key.tick) first) → Reaching turn_of setup i old 0 new
  first_by old new None is own tasks empty kept = record {
    first = λ _ none. record { own = own none.own; tasks = tasks; kept = subst (AreKept (system turn_of setup) i 0) (sym kept) (kept_none (system turn_of setup) i is) };
    further = λ last next reached. let most : max last 0 ≡ last = omega arith in rw most (reached_as old new last (own reached.own) tasks (kept ∙ sym empty) reached.kept);
  }
  first_by old new (Some key) is own tasks empty kept = record {
    first = λ _ none. record { own = own none.own; tasks = tasks; kept = subst (AreKept (system turn_of setup) i 0) (sym kept) (kept_first (system turn_of setup) i key is) };
    further = λ last next reached.
        absurd (let long = not_due_again (system turn_of setup) i last 0 old.ticks.items key reached.kept (omega arith) refl is in
        let short = subst (λ (ticks : List ℕ). 0 < length ticks) empty (omega (arith, long)) in omega (arith, short));
  }

  -- the first turn
  pub reaches_first : (old new : Clock) → (IsClock turn_of setup i old → IsClock turn_of setup i new) → KnowsTasks setup i new → old.ticks.items ≡ []
      → new.ticks.items ≡ option_to_list (tick_of (system turn_of setup) i 0) → Reaching turn_of setup i old 0 new
  reaches_first old new own tasks empty kept = first_by old new (key_of (system turn_of setup) i 0) refl own tasks empty kept

  pub reaches_again : (clock : Clock) → (clock.ticks.items ≡ [] → ⊥) → Reaching turn_of setup i clock 0 clock
  reaches_again clock some = record {
    first = λ _ none. absurd (some none.none);
    further = λ last next reached. let most : max last 0 ≡ last = omega arith in rw most reached;
  }
