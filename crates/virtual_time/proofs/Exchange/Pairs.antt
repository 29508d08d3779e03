-- Messages and antimessages in two bags: what is left of each, and the equal pairs.
use Rattle.std.proofs.Common.{◌≡◌, ℕ, zero, suc, ◌+◌, ◌-◌, ◌<◌, ◌≤◌, ◌⊎◌, inl, inr, Bool, true, false, cond, List, [], ◌∷◌, ◌++◌, refl, ap, sym, ◌∙◌, arith}
use Rattle.std.proofs.lemmas.Bool.{ltb-true, ltb-false, eq-eqb, ne_eqb, cases_eq, cases_lt}
use Rattle.virtual_time.specs.Machine.{Lawful, Machine}
use Rattle.virtual_time.specs.Entries.{Item}
use Rattle.virtual_time.specs.Bags.{has, hit, remove, times}
use Rattle.virtual_time.specs.Inverses.{Pair, times_to}
use Rattle.virtual_time.proofs.Counts.{hit_cases, times-remove}

module _ {S A : Type 0} (machine : Machine S A) where
  -- the messages without a partner, the partners that are left, and the pairs
  abbrev pub left : List (Item A) → List (Item A) → List (Item A)
  left [] ys = []
  left (x ∷ xs) ys = cond (has machine x ys) (left xs (remove machine x ys)) (x ∷ left xs ys)

  abbrev pub rest : List (Item A) → List (Item A) → List (Item A)
  rest [] ys = ys
  rest (x ∷ xs) ys = cond (has machine x ys) (rest xs (remove machine x ys)) (rest xs ys)

  abbrev pub both : List (Item A) → List (Item A) → List (Item A)
  both [] ys = []
  both (x ∷ xs) ys = cond (has machine x ys) (x ∷ both xs (remove machine x ys)) (both xs ys)

  -- pairs at a component
  abbrev pub pairs_at : ℕ → List (Item A) → List (Pair A)
  pairs_at j [] = []
  pairs_at j (x ∷ xs) = record { to = j; item = x } ∷ pairs_at j xs

  at_times : (n : ℕ) (xs : List (Item A)) (j k : ℕ) (a : A) → n ≡ j → times_to machine (pairs_at n xs) j k a ≡ times machine xs k a
  at_times n [] j k a e = refl
  at_times n (x ∷ xs) j k a e = let h = at_times n xs j k a e in rw (eq-eqb n j e) (omega arith)

  at_none : (n : ℕ) (xs : List (Item A)) (j k : ℕ) (a : A) → (n ≡ j → ⊥) → times_to machine (pairs_at n xs) j k a ≡ 0
  at_none n [] j k a ne = refl
  at_none n (x ∷ xs) j k a ne = let h = at_none n xs j k a ne in rw (ne_eqb n j ne) (omega arith)

  to_append : (xs ys : List (Pair A)) (j k : ℕ) (a : A) → times_to machine (xs ++ ys) j k a ≡ times_to machine xs j k a + times_to machine ys j k a
  to_append [] ys j k a = omega arith
  to_append (x ∷ xs) ys j k a = let h = to_append xs ys j k a in omega arith

  abbrev pub pairs_of : (ℕ → List (Item A)) → ℕ → List (Pair A)
  pairs_of f zero = []
  pairs_of f (suc n) = pairs_at n (f n) ++ pairs_of f n

  pairs_past : (f : ℕ → List (Item A)) (n j k : ℕ) (a : A) → n ≤ j → times_to machine (pairs_of f n) j k a ≡ 0
  pairs_past f zero j k a l = refl
  pairs_past f (suc n) j k a l =
      let h = pairs_past f n j k a (omega arith) in
      let z = at_none n (f n) j k a (λ (e : n ≡ j). omega arith) in
      let s = to_append (pairs_at n (f n)) (pairs_of f n) j k a in
      omega arith

  pairs_here : (f : ℕ → List (Item A)) (n j k : ℕ) (a : A) → j < n → times_to machine (pairs_of f n) j k a ≡ times machine (f j) k a
  pairs_here f zero j k a l = absurd (omega arith)
  pairs_here f (suc n) j k a l = go (cases_eq n j) (λ (m : j < n). pairs_here f n j k a m)
    where
      go : (n ≡ j) ⊎ (n ≡ j → ⊥) → (j < n → times_to machine (pairs_of f n) j k a ≡ times machine (f j) k a) → times_to machine (pairs_of f (suc n)) j k a ≡ times machine (f j) k a
      go (inl e) ih =
          let p = pairs_past f n j k a (omega arith) in
          let z = at_times n (f n) j k a e in
          let q : times machine (f n) k a ≡ times machine (f j) k a = ap (λ (l : ℕ). times machine (f l) k a) e in
          let s = to_append (pairs_at n (f n)) (pairs_of f n) j k a in
          omega arith
      go (inr ne) ih =
          let p = ih (omega arith) in
          let z = at_none n (f n) j k a ne in
          let s = to_append (pairs_at n (f n)) (pairs_of f n) j k a in
          omega arith

  -- where nothing is beyond the components
  pub pairs_all : (f : ℕ → List (Item A)) (n j k : ℕ) (a : A) → (n ≤ j → f j ≡ []) → times_to machine (pairs_of f n) j k a ≡ times machine (f j) k a
  pairs_all f n j k a none = go (cases_lt j n)
    where
      go : (j < n) ⊎ (n ≤ j) → times_to machine (pairs_of f n) j k a ≡ times machine (f j) k a
      go (inl l) = pairs_here f n j k a l
      go (inr l) = pairs_past f n j k a l ∙ sym (ap (λ (xs : List (Item A)). times machine xs k a) (none l))

module _ {S A : Type 0} (machine : Machine S A) (law : Lawful machine) where
  pub left_times : (xs ys : List (Item A)) (k : ℕ) (a : A) → times machine (left machine xs ys) k a + times machine (both machine xs ys) k a ≡ times machine xs k a
  left_times [] ys k a = refl
  left_times (x ∷ xs) ys k a = go (has machine x ys) (left_times xs (remove machine x ys) k a) (left_times xs ys k a)
    where
      go : (t : Bool) → times machine (left machine xs (remove machine x ys)) k a + times machine (both machine xs (remove machine x ys)) k a ≡ times machine xs k a
          → times machine (left machine xs ys) k a + times machine (both machine xs ys) k a ≡ times machine xs k a
          → times machine (cond t (left machine xs (remove machine x ys)) (x ∷ left machine xs ys)) k a + times machine (cond t (x ∷ both machine xs (remove machine x ys)) (both machine xs ys)) k a ≡ hit machine x k a + times machine xs k a
      go true h j = omega arith
      go false h j = omega arith

  pub rest_times : (xs ys : List (Item A)) (k : ℕ) (a : A) → times machine (rest machine xs ys) k a + times machine (both machine xs ys) k a ≡ times machine ys k a
  rest_times [] ys k a = omega arith
  rest_times (x ∷ xs) ys k a = go (has machine x ys) refl (rest_times xs (remove machine x ys) k a) (rest_times xs ys k a)
    where
      go : (t : Bool) → has machine x ys ≡ t → times machine (rest machine xs (remove machine x ys)) k a + times machine (both machine xs (remove machine x ys)) k a ≡ times machine (remove machine x ys) k a
          → times machine (rest machine xs ys) k a + times machine (both machine xs ys) k a ≡ times machine ys k a
          → times machine (cond t (rest machine xs (remove machine x ys)) (rest machine xs ys)) k a + times machine (cond t (x ∷ both machine xs (remove machine x ys)) (both machine xs ys)) k a ≡ times machine ys k a
      go true e h j = let r = times-remove machine law x ys k a (ltb-true 0 (times machine ys x.key x.action) e) in omega arith
      go false e h j = j

  pub none_left : (xs ys : List (Item A)) (k : ℕ) (a : A) → (times machine (left machine xs ys) k a ≡ 0) ⊎ (times machine (rest machine xs ys) k a ≡ 0)
  none_left [] ys k a = inl refl
  none_left (x ∷ xs) ys k a = go (has machine x ys) refl (none_left xs (remove machine x ys) k a) (none_left xs ys k a) (hit_cases machine law x (record { key = k; action = a }))
    where
      go : (t : Bool) → has machine x ys ≡ t → (times machine (left machine xs (remove machine x ys)) k a ≡ 0) ⊎ (times machine (rest machine xs (remove machine x ys)) k a ≡ 0)
          → (times machine (left machine xs ys) k a ≡ 0) ⊎ (times machine (rest machine xs ys) k a ≡ 0)
          → (hit machine x k a ≡ 0) ⊎ (◌≡◌ {A = Item A} x (record { key = k; action = a }))
          → (times machine (cond t (left machine xs (remove machine x ys)) (x ∷ left machine xs ys)) k a ≡ 0) ⊎ (times machine (cond t (rest machine xs (remove machine x ys)) (rest machine xs ys)) k a ≡ 0)
      go true e h j z = h
      go false e h (inr j) z = inr j
      go false e h (inl j) (inl z) = inl (omega arith)
      go false e h (inl j) (inr z) =
          let n = ltb-false 0 (times machine ys x.key x.action) e in
          let q : times machine ys k a ≡ times machine ys x.key x.action = ap (λ (y : Item A). times machine ys y.key y.action) (sym z) in
          let r = rest_times xs ys k a in
          inr (omega arith)

  -- of each as many are left as there were more of it
  pub left_is : (xs ys : List (Item A)) (k : ℕ) (a : A) → times machine (left machine xs ys) k a ≡ times machine xs k a - times machine ys k a
  left_is xs ys k a = go (none_left xs ys k a)
    where
      go : (times machine (left machine xs ys) k a ≡ 0) ⊎ (times machine (rest machine xs ys) k a ≡ 0) → times machine (left machine xs ys) k a ≡ times machine xs k a - times machine ys k a
      go (inl z) = let x = left_times xs ys k a in let y = rest_times xs ys k a in omega arith
      go (inr z) = let x = left_times xs ys k a in let y = rest_times xs ys k a in omega arith

  pub rest_is : (xs ys : List (Item A)) (k : ℕ) (a : A) → times machine (rest machine xs ys) k a ≡ times machine ys k a - times machine xs k a
  rest_is xs ys k a = let l = left_is xs ys k a in let x = left_times xs ys k a in let y = rest_times xs ys k a in omega arith
