-- Components take an action one after another.
use Rattle.std.proofs.Common.{◌≡◌, ℕ, zero, suc, ◌+◌, ◌<◌, ◌≤◌, ◌⊎◌, inl, inr, Bool as Truth, true, false, ◌||◌, cond, List, [], ◌∷◌, ◌++◌, length, take, refl, ap, sym, subst, ◌∙◌, arith, slice_set, get_or}
use Rattle.std.specs.Prelude.{◌==◌}
use Rattle.std.proofs.lemmas.Bool.{cases_lt, cases_eq, eq-eqb, ne_eqb}
use Rattle.std.proofs.lemmas.List.{get_or-set_same, get_or-set_other, take_more, take_all}
use Rattle.terms.specs.Datum.{Datum}
use Rattle.terms.specs.Named.{Named}
use Rattle.io_automata.specs.Automata.{Instance}
use Rattle.io_automata.specs.Receivers.{Rising, IsIn, takers_rise, takers_all, past_absent}
use Rattle.io_automata.specs.Signatures.{acts, takers_of}
use Rattle.io_automata.specs.Steps.{applied}
use Rattle.reference.specs.Verdicts.{state_at}
use Rattle.reference.proofs.Runs.{stays, no_two}

pub beyond : {X : Type 0} (xs : List X) (j : ℕ) (d : X) → length xs ≤ j → get_or xs j d ≡ d
beyond [] j d above = refl
beyond (x ∷ xs) zero d above = absurd (omega (arith, above))
beyond (x ∷ xs) (suc j) d above = beyond xs j d (omega (arith, above))

either : (b : Truth) → (b || true) ≡ true
either true = refl
either false = refl

in_at : (xs : List ℕ) (k d : ℕ) → k < length xs → IsIn (get_or xs k d) xs ≡ true
in_at [] k d below = absurd (omega (arith, below))
in_at (x ∷ xs) zero d below = ap (λ b. b || IsIn x xs) (eq-eqb x x refl)
in_at (x ∷ xs) (suc k) d below = ap (λ b. (get_or xs k d == x) || b) (in_at xs k d (omega (arith, below))) ∙ either (get_or xs k d == x)

pub in_more : (xs : List ℕ) (x j : ℕ) → IsIn j (xs ++ x ∷ []) ≡ (IsIn j xs || (j == x))
in_more [] x j = go (j == x) where
  go : (b : Truth) → (b || false) ≡ b
  go true = refl
  go false = refl
in_more (y ∷ ys) x j = go (j == y) (in_more ys x j) where
  go : (b : Truth) → IsIn j (ys ++ x ∷ []) ≡ (IsIn j ys || (j == x)) → (b || IsIn j (ys ++ x ∷ [])) ≡ ((b || IsIn j ys) || (j == x))
  go true rest = refl
  go false rest = rest

-- a number of a rising list is none of those before it
apart : (a : ℕ) (xs : List ℕ) (k d : ℕ) → Rising a xs → k < length xs → (IsIn (get_or xs k d) (take k xs) ≡ false) × (a ≤ get_or xs k d)
apart a [] k d rise below = absurd (omega (arith, below))
apart a (x ∷ xs) zero d rise below = (refl, rise.0)
apart a (x ∷ xs) (suc k) d rise below =
    let rest = apart (x + 1) xs k d rise.1 (omega (arith, below)) in
    let low = rise.0 in
    let above = rest.1 in
    let other : (get_or xs k d == x) ≡ false = ne_eqb (get_or xs k d) x (λ same. omega (arith, same, above)) in
    (ap (λ b. b || IsIn (get_or xs k d) (take k xs)) other ∙ rest.0, omega (arith, low, above))

-- those that are done have taken the action, and the others are as they were
abbrev pub IsTaken : List Instance → Named → List (List Datum) → List ℕ → List (List Datum) → Type 0
IsTaken composition action olds done states = (j : ℕ) → state_at states j ≡ cond (IsIn j done) (applied composition j action (state_at olds j)) (state_at olds j)

module _ (composition : List Instance) (action : Named) (takers : List ℕ) (is : takers ≡ takers_of composition action) where
  among : (j : ℕ) → IsIn j takers ≡ acts composition j action
  among j = ap (IsIn j) is ∙ takers_all composition action j

  pub taker_acts : (k d : ℕ) → k < length takers → acts composition (get_or takers k d) action ≡ true
  taker_acts k d below = sym (among (get_or takers k d)) ∙ in_at takers k d below

  pub taker_below : (k d : ℕ) → k < length takers → get_or takers k d < length composition
  taker_below k d below = go (cases_lt (get_or takers k d) (length composition)) where
    go : (get_or takers k d < length composition) ⊎ (length composition ≤ get_or takers k d) → get_or takers k d < length composition
    go (inl less) = less
    go (inr past) = absurd (no_two (taker_acts k d below) (rw (past_absent composition (get_or takers k d) past) refl))

  pub one_more : (olds states : List (List Datum)) (k i : ℕ) (new : List Datum) → k < length takers → get_or takers k i ≡ i → i < length states → new ≡ applied composition i action (state_at states i) → IsTaken composition action olds (take k takers) states → IsTaken composition action olds (take (k + 1) takers) (slice_set states i new)
  one_more olds states k i new below at within made before j = go (cases_eq j i) ∙ sym (ap (λ b. cond b (applied composition j action (state_at olds j)) (state_at olds j)) more) where
    more : IsIn j (take (k + 1) takers) ≡ (IsIn j (take k takers) || (j == i))
    more = ap (IsIn j) (take_more takers k i below ∙ ap (λ x. take k takers ++ x ∷ []) at) ∙ in_more (take k takers) i j

    fresh : IsIn i (take k takers) ≡ false
    fresh = subst (λ (x : ℕ). IsIn x (take k takers) ≡ false) at (apart 0 takers k i (subst (Rising 0) (sym is) (takers_rise composition action)) below).0

    go : (j ≡ i) ⊎ (j ≡ i → ⊥) → state_at (slice_set states i new) j ≡ cond (IsIn j (take k takers) || (j == i)) (applied composition j action (state_at olds j)) (state_at olds j)
    go (inl same) =
        let here : state_at (slice_set states i new) i ≡ applied composition i action (state_at olds i) =
        get_or-set_same states i new [] within ∙ made ∙ ap (applied composition i action) (before i ∙ ap (λ b. cond b (applied composition i action (state_at olds i)) (state_at olds i)) fresh) in
        subst (λ (x : ℕ). state_at (slice_set states i new) x ≡ applied composition x action (state_at olds x)) (sym same) here
        ∙ sym (ap (λ b. cond b (applied composition j action (state_at olds j)) (state_at olds j)) (ap (λ b. IsIn j (take k takers) || b) (eq-eqb j i same) ∙ either (IsIn j (take k takers))))
    go (inr other) =
        get_or-set_other states i j new [] other ∙ before j
        ∙ sym (ap (λ b. cond b (applied composition j action (state_at olds j)) (state_at olds j)) (ap (λ b. IsIn j (take k takers) || b) (ne_eqb j i other) ∙ neither (IsIn j (take k takers))))
      where
        neither : (b : Truth) → (b || false) ≡ b
        neither true = refl
        neither false = refl

  -- all have taken it
  pub all_taken : (olds states : List (List Datum)) (k : ℕ) → length takers ≤ k → IsTaken composition action olds (take k takers) states → (j : ℕ) → state_at states j ≡ applied composition j action (state_at olds j)
  all_taken olds states k long taken j = taken j ∙ ap (λ b. cond b (applied composition j action (state_at olds j)) (state_at olds j)) (ap (IsIn j) (take_all k takers long) ∙ among j) ∙ go (acts composition j action) refl where
    go : (b : Truth) → acts composition j action ≡ b → cond b (applied composition j action (state_at olds j)) (state_at olds j) ≡ applied composition j action (state_at olds j)
    go true has = refl
    go false none = sym (stays composition j action (state_at olds j) none)

  stands : (xs : List ℕ) (j : ℕ) → IsIn j xs ≡ true → (k : ℕ) × (k < length xs) × (get_or xs k 0 ≡ j)
  stands [] j h = cc
  stands (x ∷ xs) j h = go (cases_eq j x) (λ g. stands xs j g) where
    go : (j ≡ x) ⊎ (j ≡ x → ⊥) → (IsIn j xs ≡ true → (k : ℕ) × (k < length xs) × (get_or xs k 0 ≡ j)) → (k : ℕ) × (k < length (x ∷ xs)) × (get_or (x ∷ xs) k 0 ≡ j)
    go (inl same) rest = (0, omega arith, sym same)
    go (inr other) rest =
        let later = rest (sym (ap (λ b. b || IsIn j xs) (ne_eqb j x other)) ∙ h) in
        let within = later.1 in
        (suc later.0, omega (arith, within), later.2)

  -- where an action has no taker, no component has it
  pub none_acts : length takers ≡ 0 → (j : ℕ) → acts composition j action ≡ false
  none_acts none j = go (acts composition j action) refl where
    go : (b : Truth) → acts composition j action ≡ b → b ≡ false
    go true has = let there = stands takers j (among j ∙ has) in let below = there.1 in absurd (omega (arith, below, none))
    go false lacks = refl

  -- what each taker has, each component that has the action has
  pub each_taker : (P : ℕ → Type 0) → ((k : ℕ) → k < length takers → P (get_or takers k 0)) → (j : ℕ) → acts composition j action ≡ true → P j
  each_taker P each j has = let there = stands takers j (among j ∙ has) in subst P there.2 (each there.0 there.1)
