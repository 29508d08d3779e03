-- What a clock keeps where it reaches one turn more.
use Rattle.std.proofs.Common.{◌≡◌, ℕ, zero, suc, ◌+◌, ◌-◌, ◌*◌, ◌/◌, ◌%◌, ◌<◌, ◌≤◌, ◌⊎◌, inl, inr, Bool, true, false, List, [], ◌∷◌, ◌++◌, length, Option, None, Some, refl, ap, sym, ◌∙◌, subst, arith}
use Rattle.std.specs.Prelude.{nat_le, if◌then◌else◌, option_map, slice_get}
use Rattle.std.proofs.lemmas.Bool.Decides.{nat_tests}
use Rattle.event_keys.specs.declared.key.Key.{Key}
use Rattle.task_seed.specs.Clocks.{AreKept, tick_of}
use Rattle.task_seed.specs.Ticks.{no_later_key}
use Rattle.task_seed.specs.Turning.{System, key_of}

-- places in a list
pub got : {A : Type 0} (xs : List A) (k : ℕ) (x : A) → slice_get xs k ≡ Some x → k < length xs
got [] k x e = cc
got (y ∷ ys) zero x e = omega arith
got (y ∷ ys) (suc k) x e = let h = got ys k x e in omega (arith, h)

pub missed : {A : Type 0} (xs : List A) (k : ℕ) → length xs ≤ k → slice_get xs k ≡ None
missed [] k h = refl
missed (y ∷ ys) zero h = absurd (omega (arith, h))
missed (y ∷ ys) (suc k) h = missed ys k (omega (arith, h))

before_end : {A : Type 0} (xs ys : List A) (k : ℕ) → k < length xs → slice_get (xs ++ ys) k ≡ slice_get xs k
before_end [] ys k h = absurd (omega (arith, h))
before_end (x ∷ xs) ys zero h = refl
before_end (x ∷ xs) ys (suc k) h = before_end xs ys k (omega (arith, h))

at_end : {A : Type 0} (xs : List A) (x : A) (k : ℕ) → k ≡ length xs → slice_get (xs ++ x ∷ []) k ≡ Some x
at_end [] x zero h = refl
at_end [] x (suc k) h = absurd (omega (arith, h))
at_end (y ∷ ys) x zero h = absurd (omega (arith, h))
at_end (y ∷ ys) x (suc k) h = at_end ys x k (omega (arith, h))

one_longer : {A : Type 0} (xs : List A) (x : A) → length (xs ++ x ∷ []) ≡ length xs + 1
one_longer [] x = refl
one_longer (y ∷ ys) x = let h = one_longer ys x in omega (arith, h)

module _ (s : System) (i : ℕ) where
  -- no turn before one that exists is missing
  earlier : (k n : ℕ) (key : Key) (o : Option Key) → o ≡ key_of s i k → k ≤ n → Some key ≡ key_of s i n → (there : Key) × (o ≡ Some there)
  earlier k n key None e within is = absurd (let gone = no_later_key s i k n within e in cc)
  earlier k n key (Some there) e within is = (there, refl)

  some_tick : (n : ℕ) (key : Key) → Some key ≡ key_of s i n → tick_of s i n ≡ Some key.tick
  some_tick n key is = ap (option_map (λ (k : Key). k.tick)) (sym is)

  no_tick : (n : ℕ) → None ≡ key_of s i n → tick_of s i n ≡ None
  no_tick n is = ap (option_map (λ (k : Key). k.tick)) (sym is)

  pub kept_at : (m k : ℕ) (ticks : List ℕ) → AreKept s i m ticks → 256 * k ≤ m → slice_get ticks k ≡ tick_of s i (256 * k)
  kept_at m k ticks kept h = let within : nat_le (256 * k) m ≡ true = grind (arith, nat_tests) in kept k ∙ ap (λ b. if b then tick_of s i (256 * k) else None) within

  pub kept_past : (m k : ℕ) (ticks : List ℕ) → AreKept s i m ticks → m < 256 * k → slice_get ticks k ≡ None
  kept_past m k ticks kept h = let past : nat_le (256 * k) m ≡ false = grind (arith, nat_tests) in kept k ∙ ap (λ b. if b then tick_of s i (256 * k) else None) past

  -- from a place to what is kept there
  kept_here : (n k : ℕ) (o : Option ℕ) → 256 * k ≤ n → o ≡ tick_of s i (256 * k) → o ≡ (if nat_le (256 * k) n then tick_of s i (256 * k) else None)
  kept_here n k o h e = let within : nat_le (256 * k) n ≡ true = grind (arith, nat_tests) in e ∙ sym (ap (λ b. if b then tick_of s i (256 * k) else None) within)

  none_here : (n k : ℕ) (o : Option ℕ) → n < 256 * k → o ≡ None → o ≡ (if nat_le (256 * k) n then tick_of s i (256 * k) else None)
  none_here n k o h e = let past : nat_le (256 * k) n ≡ false = grind (arith, nat_tests) in e ∙ sym (ap (λ b. if b then tick_of s i (256 * k) else None) past)

  at_most : (a b : ℕ) → (a ≤ b) ⊎ (b < a)
  at_most a b = go (nat_le a b) refl where
    go : (t : Bool) → nat_le a b ≡ t → (a ≤ b) ⊎ (b < a)
    go true h = inl (grind (arith, nat_tests))
    go false h = inr (grind (arith, nat_tests))

  -- where the next turn isn't one whose tick is kept, or doesn't exist, the same is kept
  pub kept_more : (m n : ℕ) (ticks : List ℕ) → AreKept s i m ticks → m ≤ n → n ≤ m + 1 → (n % 256 ≡ 0 → m < n → None ≡ key_of s i n) → AreKept s i n ticks
  kept_more m n ticks kept low high none k = go (at_most (256 * k) m) (at_most (256 * k) n) where
    go : (256 * k ≤ m) ⊎ (m < 256 * k) → (256 * k ≤ n) ⊎ (n < 256 * k) → slice_get ticks k ≡ (if nat_le (256 * k) n then tick_of s i (256 * k) else None)
    go (inl below) (inl within) = kept_here n k (slice_get ticks k) within (kept_at m k ticks kept below)
    go (inl below) (inr past) = absurd (omega (arith, below, past, low))
    go (inr above) (inl within) =
        let same : n ≡ 256 * k = omega (arith, above, within, high) in
        let multiple : n % 256 ≡ 0 = omega (arith, same) in
        let gone : None ≡ key_of s i (256 * k) = subst (λ (m : ℕ). None ≡ key_of s i m) same (none multiple (omega (arith, above, within))) in
        kept_here n k (slice_get ticks k) within (kept_past m k ticks kept above ∙ sym (no_tick (256 * k) gone))
    go (inr above) (inr past) = none_here n k (slice_get ticks k) past (kept_past m k ticks kept above)

  -- all ticks before that of the next turn are there
  all_there : (m n : ℕ) (ticks : List ℕ) (key : Key) → AreKept s i m ticks → n ≡ m + 1 → n % 256 ≡ 0 → Some key ≡ key_of s i n → n / 256 ≤ length ticks
  all_there m n ticks key kept next multiple is =
      let k = n / 256 - 1 in
      let within : 256 * k ≤ m = omega (arith, next, multiple) in
      let there = earlier (256 * k) n key (key_of s i (256 * k)) refl (omega (arith, within, next)) is in
      let found : slice_get ticks k ≡ Some there.0.tick = kept_at m k ticks kept within ∙ some_tick (256 * k) there.0 (sym there.1) in
      let inside = got ticks k there.0.tick found in
      omega (arith, inside, next, multiple)

  -- and else its tick comes after the others
  pub kept_pushed : (m n : ℕ) (ticks : List ℕ) (key : Key) → AreKept s i m ticks → n ≡ m + 1 → n % 256 ≡ 0 → length ticks ≤ n / 256 → Some key ≡ key_of s i n → AreKept s i n (ticks ++ key.tick ∷ [])
  kept_pushed m n ticks key kept next multiple short is k = go (at_most (256 * k) m) (at_most (256 * k) n) where
    many : n / 256 ≡ length ticks
    many = let long = all_there m n ticks key kept next multiple is in omega (arith, long, short)

    go : (256 * k ≤ m) ⊎ (m < 256 * k) → (256 * k ≤ n) ⊎ (n < 256 * k) → slice_get (ticks ++ key.tick ∷ []) k ≡ (if nat_le (256 * k) n then tick_of s i (256 * k) else None)
    go (inl below) (inl within) =
        kept_here n k (slice_get (ticks ++ key.tick ∷ []) k) within (before_end ticks (key.tick ∷ []) k (omega (arith, below, next, many)) ∙ kept_at m k ticks kept below)
    go (inl below) (inr past) = absurd (omega (arith, below, past, next))
    go (inr above) (inl within) =
        let same : n ≡ 256 * k = omega (arith, above, within, next) in
        let last : k ≡ length ticks = omega (arith, same, many) in
        kept_here n k (slice_get (ticks ++ key.tick ∷ []) k) within (at_end ticks key.tick k last ∙ sym (some_tick (256 * k) key (subst (λ (m : ℕ). Some key ≡ key_of s i m) same is)))
    go (inr above) (inr past) =
        let longer = one_longer ticks key.tick in
        none_here n k (slice_get (ticks ++ key.tick ∷ []) k) past (missed (ticks ++ key.tick ∷ []) k (omega (arith, past, many, longer, multiple)))

  -- where the next turn exists and isn't due, its tick isn't one that is kept
  pub not_due : (m n : ℕ) (ticks : List ℕ) → AreKept s i m ticks → n ≡ m + 1 → n % 256 ≡ 0 → length ticks ≤ n / 256
  not_due m n ticks kept next multiple = go (at_most (length ticks) (n / 256)) where
    none : slice_get ticks (n / 256) ≡ None
    none = kept_past m (n / 256) ticks kept (omega (arith, next, multiple))

    there : {A : Type 0} (xs : List A) (k : ℕ) → k < length xs → slice_get xs k ≡ None → ⊥
    there [] k h e = omega (arith, h)
    there (x ∷ xs) zero h e = cc
    there (x ∷ xs) (suc k) h e = there xs k (omega (arith, h)) e

    go : (length ticks ≤ n / 256) ⊎ (n / 256 < length ticks) → length ticks ≤ n / 256
    go (inl h) = h
    go (inr h) = absurd (there ticks (n / 256) h none)

  -- the tick of a turn that was reached and exists is there
  pub not_due_again : (m n : ℕ) (ticks : List ℕ) (key : Key) → AreKept s i m ticks → n ≤ m → n % 256 ≡ 0 → Some key ≡ key_of s i n → n / 256 < length ticks
  not_due_again m n ticks key kept within multiple is =
      let same : 256 * (n / 256) ≡ n = omega (arith, multiple) in
      let at : Some key ≡ key_of s i (256 * (n / 256)) = subst (λ (m : ℕ). Some key ≡ key_of s i m) (sym same) is in
      got ticks (n / 256) key.tick (kept_at m (n / 256) ticks kept (omega (arith, same, within)) ∙ some_tick (256 * (n / 256)) key at)

  -- nothing is kept, and the first turn is reached
  pub kept_first : (key : Key) → Some key ≡ key_of s i 0 → AreKept s i 0 (key.tick ∷ [])
  kept_first key is zero = kept_here 0 0 (Some key.tick) (omega arith) (sym (some_tick 0 key is))
  kept_first key is (suc k) = none_here 0 (suc k) None (omega arith) refl

  pub kept_none : None ≡ key_of s i 0 → AreKept s i 0 []
  kept_none is zero = kept_here 0 0 None (omega arith) (sym (no_tick 0 is))
  kept_none is (suc k) = none_here 0 (suc k) None (omega arith) refl
