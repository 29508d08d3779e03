-- The components' clocks, where one reaches a turn more.
use Rattle.std.proofs.Common.{◌≡◌, ℕ, zero, suc, ◌+◌, ◌<◌, ◌≤◌, ◌⊎◌, inl, inr, Option, Some, List, [], ◌∷◌, ◌++◌, length, refl, ap, sym, subst, ◌∙◌, arith}
use Rattle.std.specs.Prelude.{OnErr, OnOk, replicate, slice_get, slice_set, slice_index_or}
use Rattle.std.specs.declared.result.Result.{Result}
use Rattle.std.specs.declared.result.Result.TheVariants.{Ok, Err}
use Rattle.std.proofs.lemmas.Bool.{cases_eq}
use Rattle.std.proofs.lemmas.Option.{slice_get-get_or}
use Rattle.plans.specs.Plans.{composition}
use Rattle.task_seed.specs.declared.clock.Clock.{Clock}
use Rattle.task_seed.specs.declared.setup.Setup.{Setup}
use Rattle.task_seed.specs.declared.turns.Turn.{Turn}
use Rattle.task_seed.specs.Clocks.{HasReached, Reaching}
use Rattle.task_seed.specs.ClockLaws.{reached_before, reached_on, reached_same}
use Rattle.task_seed.specs.Setups.{plan_of}
use Rattle.reference.specs.Clocks.{AreClocks}
use Rattle.reference.proofs.Takers.{slice_set-length}

-- what holds at each place holds where one item is put in a place
pub put_in : {A : Type 0} (P : ℕ → A → Type 0) (xs : List A) (n : ℕ) (x : A) → ((i : ℕ) (a : A) → slice_get xs i ≡ Some a → P i a) → P n x
    → (i : ℕ) (a : A) → slice_get (slice_set xs n x) i ≡ Some a → P i a
put_in P [] n x each here i a e = cc
put_in P (y ∷ ys) zero x each here zero a e = let same : x ≡ a = cc in subst (P 0) same here
put_in P (y ∷ ys) zero x each here (suc i) a e = each (suc i) a e
put_in P (y ∷ ys) (suc n) x each here zero a e = each zero a e
put_in P (y ∷ ys) (suc n) x each here (suc i) a e = put_in (λ k. P (suc k)) ys n x (λ k b f. each (suc k) b f) here i a e

-- and where one item is put behind all
pub put_last : {A : Type 0} (P : ℕ → A → Type 0) (xs : List A) (x : A) → ((i : ℕ) (a : A) → slice_get xs i ≡ Some a → P i a) → P (length xs) x
    → (i : ℕ) (a : A) → slice_get (xs ++ x ∷ []) i ≡ Some a → P i a
put_last P [] x each here zero a e = let same : x ≡ a = cc in subst (P 0) same here
put_last P [] x each here (suc i) a e = cc
put_last P (y ∷ ys) x each here zero a e = each zero a e
put_last P (y ∷ ys) x each here (suc i) a e = put_last (λ k. P (suc k)) ys x (λ k b f. each (suc k) b f) here i a e

-- what stands at another place
at_other : (xs : List ℕ) (i j x : ℕ) → (j ≡ i → ⊥) → slice_index_or (slice_set xs i x) j 0 ≡ slice_index_or xs j 0
at_other [] i j x ne = refl
at_other (y ∷ ys) zero zero x ne = absurd (ne refl)
at_other (y ∷ ys) zero (suc j) x ne = refl
at_other (y ∷ ys) (suc i) zero x ne = refl
at_other (y ∷ ys) (suc i) (suc j) x ne = at_other ys i j x (λ e. ne (ap suc e))

-- what was put at a place, and 0 where there is no such place
at_own : (xs : List ℕ) (i x : ℕ) → (slice_index_or (slice_set xs i x) i 0 ≡ x) ⊎ (slice_index_or (slice_set xs i x) i 0 ≡ 0)
at_own [] i x = inr refl
at_own (y ∷ ys) zero x = inl refl
at_own (y ∷ ys) (suc i) x = at_own ys i x

pub all_zero : (n i : ℕ) → ◌≡◌ {A = ℕ} (slice_index_or (replicate n 0) i 0) 0
all_zero zero i = refl
all_zero (suc n) zero = refl
all_zero (suc n) (suc i) = all_zero n i

module _ {T : Type 0} (turn_of : T → ℕ → ℕ → Option Turn) (setup : Setup T) (numbers : List ℕ) (clocks : List Clock) where
  -- a clock in place of that of component i
  pub one_reached : (i n : ℕ) (new : Clock) → AreClocks turn_of setup numbers clocks → n ≡ i → HasReached turn_of setup i new (slice_index_or numbers i 0)
      → AreClocks turn_of setup numbers (slice_set clocks n new)
  one_reached i n new are n_is here =
      record {
        many = slice_set-length clocks n new ∙ are.many;
        each = put_in (λ k clock. HasReached turn_of setup k clock (slice_index_or numbers k 0)) clocks n new are.each (subst (λ k. HasReached turn_of setup k new (slice_index_or numbers k 0)) (sym n_is) here);
      }

  -- the number of a turn that was reached in place of that of component i
  pub number_reached : (i x : ℕ) → AreClocks turn_of setup numbers clocks → ((clock : Clock) → slice_get clocks i ≡ Some clock → HasReached turn_of setup i clock x)
      → AreClocks turn_of setup (slice_set numbers i x) clocks
  number_reached i x are here = record { many = are.many; each = λ j clock at. go j clock at (cases_eq j i) } where
    go : (j : ℕ) (clock : Clock) → slice_get clocks j ≡ Some clock → (j ≡ i) ⊎ (j ≡ i → ⊥) → HasReached turn_of setup j clock (slice_index_or (slice_set numbers i x) j 0)
    go j clock at (inl same) =
        subst (λ k. HasReached turn_of setup k clock (slice_index_or (slice_set numbers i x) k 0)) (sym same) (by (at_own numbers i x)) where
          reached : HasReached turn_of setup i clock x
          reached = here clock (subst (λ k. slice_get clocks k ≡ Some clock) same at)

          by : (slice_index_or (slice_set numbers i x) i 0 ≡ x) ⊎ (slice_index_or (slice_set numbers i x) i 0 ≡ 0) → HasReached turn_of setup i clock (slice_index_or (slice_set numbers i x) i 0)
          by (inl e) = subst (HasReached turn_of setup i clock) (sym e) reached
          by (inr e) = subst (HasReached turn_of setup i clock) (sym e) (reached_before turn_of setup i clock 0 x (omega arith) reached)
    go j clock at (inr other) = subst (HasReached turn_of setup j clock) (sym (at_other numbers i j x other)) (are.each j clock at)

module _ {T : Type 0} (turn_of : T → ℕ → ℕ → Option Turn) (setup : Setup T) (numbers : List ℕ) (clocks : List Clock) (i n : ℕ) (d : Clock) (are : AreClocks turn_of setup numbers clocks) (same : n ≡ i) (within : i < length (composition (plan_of setup))) where
  here : slice_get clocks n ≡ Some (slice_index_or clocks n d)
  here = slice_get-get_or clocks n d (let many = are.many in omega (arith, many, same, within))

  -- the clock of component i
  pub clock_here : HasReached turn_of setup i (slice_index_or clocks n d) (slice_index_or numbers i 0)
  clock_here = subst (λ k. HasReached turn_of setup k (slice_index_or clocks n d) (slice_index_or numbers k 0)) same (are.each n (slice_index_or clocks n d) here)

-- what was put at a place is there
put_there : {A : Type 0} (xs : List A) (n : ℕ) (x y : A) → slice_get (slice_set xs n x) n ≡ Some y → x ≡ y
put_there [] n x y e = cc
put_there (z ∷ zs) zero x y e = cc
put_there (z ∷ zs) (suc n) x y e = put_there zs n x y e

module _ {T : Type 0} (turn_of : T → ℕ → ℕ → Option Turn) (setup : Setup T) (i : ℕ) where
  -- a clock that was to reach a turn has reached what it had, whether it was refused or not
  pub still_reached : {X E : Type 0} (result : Result X E) (old new : Clock) (m n : ℕ) → n ≤ m + 1 → HasReached turn_of setup i old m → OnOk result (Reaching turn_of setup i old n new)
      → OnErr result (new ≡ record old { ticks = new.ticks }) → OnErr result (new.ticks.items ≡ old.ticks.items) → HasReached turn_of setup i new m
  still_reached (Ok x) old new m n next h ok err ticks = (reached_on turn_of setup i old new m n next h ok).0
  still_reached (Err e) old new m n next h ok err ticks = reached_same turn_of setup i old new m err ticks h

  -- and where it wasn't, that turn too
  pub then_reached : {X E : Type 0} (result : Result X E) (numbers : List ℕ) (clocks : List Clock) (old new : Clock) (k m : ℕ) → k ≡ i → HasReached turn_of setup i old m → OnOk result (Reaching turn_of setup i old (m + 1) new)
      → AreClocks turn_of setup numbers (slice_set clocks k new) → OnOk result (AreClocks turn_of setup (slice_set numbers i (m + 1)) (slice_set clocks k new))
  then_reached (Err e) numbers clocks old new k m same h ok are = tt
  then_reached (Ok x) numbers clocks old new k m same h ok are =
      number_reached turn_of setup numbers (slice_set clocks k new) i (m + 1) are
      (λ clock at. subst (λ (c : Clock). HasReached turn_of setup i c (m + 1)) (put_there clocks k new clock (subst (λ j. slice_get (slice_set clocks k new) j ≡ Some clock) (sym same) at))
      (reached_on turn_of setup i old new m (m + 1) (omega arith) h ok).1)
