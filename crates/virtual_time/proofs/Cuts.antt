-- The done entries of one component, cut at a key.
use Rattle.std.proofs.Common.{◌≡◌, ℕ, suc, ◌+◌, ◌<◌, ◌≤◌, ◌⊎◌, inl, inr, Bool, true, false, cond, Option, None, Some, List, [], ◌∷◌, refl, ap, sym, subst, ◌∙◌, arith, ltb}
use Rattle.std.proofs.lemmas.Bool.{lt-ltb, le-ltb, eq-eqb, ne_eqb, cases_eq, cases_order, cases_lt}
use Rattle.virtual_time.specs.Machine.{Lawful, Machine}
use Rattle.virtual_time.specs.Entries.{Entry, Input, Item, Own, below, entry_key, latest, number, turn_at}
use Rattle.virtual_time.specs.Bags.{hit, hit_own, inputs, owns}
use Rattle.virtual_time.specs.Rules.{IsDone}
use Rattle.virtual_time.proofs.Counts.{hit_cases, hit_self, hit_key}
use Rattle.virtual_time.proofs.Lists.{base_low, own_below}

abbrev pub below_at : {A : Type 0} (c : ℕ) (e : Entry A) (es : List (Entry A)) → entry_key e < c → below c (e ∷ es) ≡ e ∷ es
below_at c e es h = rw (lt-ltb (entry_key e) c h)

pub below_past : {A : Type 0} (c : ℕ) (e : Entry A) (es : List (Entry A)) → c ≤ entry_key e → below c (e ∷ es) ≡ below c es
below_past c e es h = rw (le-ltb (entry_key e) c h)

pub turn_here : {A : Type 0} (c k : ℕ) (o : Option A) (es : List (Entry A)) → k ≡ c → turn_at c (Own k o ∷ es) ≡ Some o
turn_here c k o es h = rw (eq-eqb k c h)

pub turn_past : {A : Type 0} (c k : ℕ) (o : Option A) (es : List (Entry A)) → (k ≡ c → ⊥) → turn_at c (Own k o ∷ es) ≡ turn_at c es
turn_past c k o es h = rw (ne_eqb k c h)

pub Some≢None : {A : Type 0} (x : A) → Some x ≡ None → ⊥
Some≢None x e = cc

module _ {S A : Type 0} (machine : Machine S A) (law : Lawful machine) where
  pub hit_there : (x : Item A) (k : ℕ) → x.key ≡ k → hit machine x k x.action ≡ 1
  hit_there x k e = subst (λ (l : ℕ). hit machine x l x.action ≡ 1) e (hit_self machine law x)

  pub hit_own_past : (k : ℕ) (o : Option A) (c : ℕ) (a : A) → (k ≡ c → ⊥) → hit_own machine k o c a ≡ 0
  hit_own_past k None c a ne = refl
  hit_own_past k (Some b) c a ne = hit_key machine law (record { key = k; action = b }) c a ne

  -- nothing at c: the cut before c is the cut behind it
  pub cut_skip : (c : ℕ) (es : List (Entry A)) → ((a : A) → inputs machine es c a ≡ 0) → turn_at c es ≡ None → below (suc c) es ≡ below c es
  cut_skip c [] none t = refl
  cut_skip c (Own k o ∷ es) none t = go (cut_skip c es none) (cases_order k c)
    where
      go : (turn_at c es ≡ None → below (suc c) es ≡ below c es) → (k ≡ c) ⊎ ((k < c) ⊎ (c < k)) → below (suc c) (Own k o ∷ es) ≡ below c (Own k o ∷ es)
      go ih (inl e) = absurd (Some≢None o (sym (turn_here c k o es e) ∙ t))
      go ih (inr (inl l)) = below_at (suc c) (Own k o) es (omega arith) ∙ sym (below_at c (Own k o) es l)
      go ih (inr (inr g)) =
          let ne : k ≡ c → ⊥ = λ (e : k ≡ c). omega arith in
          below_past (suc c) (Own k o) es g ∙ ih (sym (turn_past c k o es ne) ∙ t) ∙ sym (below_past c (Own k o) es (omega arith))
  cut_skip c (Input x ∷ es) none t = go (λ (h : (a : A) → inputs machine es c a ≡ 0). cut_skip c es h t) (cases_order x.key c)
    where
      go : (((a : A) → inputs machine es c a ≡ 0) → below (suc c) es ≡ below c es) → (x.key ≡ c) ⊎ ((x.key < c) ⊎ (c < x.key)) → below (suc c) (Input x ∷ es) ≡ below c (Input x ∷ es)
      go ih (inl e) = let h = hit_there x c e in let n = none x.action in absurd (omega arith)
      go ih (inr (inl l)) = below_at (suc c) (Input x) es (omega arith) ∙ sym (below_at c (Input x) es l)
      go ih (inr (inr g)) = below_past (suc c) (Input x) es g ∙ ih (λ a. let n = none a in omega arith) ∙ sym (below_past c (Input x) es (omega arith))

  module _ (i g n : ℕ) (s : S) where
    pub no_input : (c : ℕ) (es : List (Entry A)) → IsDone machine i g n s es → latest g es < c → (a : A) → inputs machine es c a ≡ 0
    no_input c [] d l a = refl
    no_input c (Own k o ∷ es) d l a = no_input c es d.4 (omega arith) a
    no_input c (Input x ∷ es) d l a =
        let h = no_input c es d.2 (omega arith) a in
        let z : hit machine x c a ≡ 0 = hit_key machine law x c a (λ (e : x.key ≡ c). omega arith) in
        omega arith

    pub no_turn : (c : ℕ) (es : List (Entry A)) → IsDone machine i g n s es → latest g es < c → turn_at c es ≡ None
    no_turn c [] d l = refl
    no_turn c (Own k o ∷ es) d l = turn_past c k o es (λ (e : k ≡ c). omega arith) ∙ no_turn c es d.4 (omega arith)
    no_turn c (Input x ∷ es) d l = no_turn c es d.2 (omega arith)

    pub no_owns : (c : ℕ) (es : List (Entry A)) → turn_at c es ≡ None → (a : A) → owns machine es c a ≡ 0
    no_owns c [] t a = refl
    no_owns c (Own k o ∷ es) t a = go (λ (h : turn_at c es ≡ None). no_owns c es h a) (cases_eq k c)
      where
        go : (turn_at c es ≡ None → owns machine es c a ≡ 0) → (k ≡ c) ⊎ (k ≡ c → ⊥) → hit_own machine k o c a + owns machine es c a ≡ 0
        go ih (inl e) = absurd (Some≢None o (sym (turn_here c k o es e) ∙ t))
        go ih (inr ne) = let h = ih (sym (turn_past c k o es ne) ∙ t) in let z = hit_own_past k o c a ne in omega arith
    no_owns c (Input x ∷ es) t a = no_owns c es t a

    pub owns_at : (c : ℕ) (o : Option A) (es : List (Entry A)) → IsDone machine i g n s es → turn_at c es ≡ Some o → (a : A) → owns machine es c a ≡ hit_own machine c o c a
    owns_at c o [] d t a = absurd (Some≢None o (sym t))
    owns_at c o (Own k o' ∷ es) d t a = go (owns_at c o es d.4) (cases_eq k c)
      where
        go : (turn_at c es ≡ Some o → (a : A) → owns machine es c a ≡ hit_own machine c o c a) → (k ≡ c) ⊎ (k ≡ c → ⊥) → hit_own machine k o' c a + owns machine es c a ≡ hit_own machine c o c a
        go ih (inl e) =
            let x : Some o' ≡ Some o = sym (turn_here c k o' es e) ∙ t in
            let y : o' ≡ o = cc in
            let z = no_owns c es (own_below machine law i g n s es c d.4 (omega arith)) a in
            let v : hit_own machine k o' c a ≡ hit_own machine c o c a = rw (e, y) in
            omega arith
        go ih (inr ne) = let h = ih (sym (turn_past c k o' es ne) ∙ t) a in let z = hit_own_past k o' c a ne in omega arith
    owns_at c o (Input x ∷ es) d t a = owns_at c o es d.2 t a

    pub below_same : (c : ℕ) (es : List (Entry A)) → latest g es ≤ c → ((a : A) → inputs machine es c a ≡ 0) → turn_at c es ≡ None → below c es ≡ es
    below_same c [] l none t = refl
    below_same c (Own k o ∷ es) l none t = below_at c (Own k o) es (go (cases_eq k c))
      where
        go : (k ≡ c) ⊎ (k ≡ c → ⊥) → k < c
        go (inl e) = absurd (Some≢None o (sym (turn_here c k o es e) ∙ t))
        go (inr ne) = omega arith
    below_same c (Input x ∷ es) l none t = below_at c (Input x) es (go (cases_eq x.key c))
      where
        go : (x.key ≡ c) ⊎ (x.key ≡ c → ⊥) → x.key < c
        go (inl e) = let h = hit_there x c e in let z = none x.action in absurd (omega arith)
        go (inr ne) = omega arith

    -- an own turn at c
    pub cut_own : (c : ℕ) (o : Option A) (es : List (Entry A)) → IsDone machine i g n s es → ((a : A) → inputs machine es c a ≡ 0) → turn_at c es ≡ Some o
        → below (suc c) es ≡ Own c o ∷ below c es
    cut_own c o [] d none t = absurd (Some≢None o (sym t))
    cut_own c o (Own k o' ∷ es) d none t = go (cut_own c o es d.4 none) (cases_order k c)
      where
        go : (turn_at c es ≡ Some o → below (suc c) es ≡ Own c o ∷ below c es) → (k ≡ c) ⊎ ((k < c) ⊎ (c < k)) → below (suc c) (Own k o' ∷ es) ≡ Own c o ∷ below c (Own k o' ∷ es)
        go ih (inl e) =
            let x : Some o' ≡ Some o = sym (turn_here c k o' es e) ∙ t in
            let y : o' ≡ o = cc in
            let same : below c es ≡ es = below_same c es (omega arith) none (own_below machine law i g n s es c d.4 (omega arith)) in
            below_at (suc c) (Own k o') es (omega arith) ∙ rw (below_past c (Own k o') es (omega arith), same, e, y)
        go ih (inr (inl l)) =
            let ne : k ≡ c → ⊥ = λ (e : k ≡ c). omega arith in
            absurd (Some≢None o (sym t ∙ turn_past c k o' es ne ∙ no_turn c es d.4 (omega arith)))
        go ih (inr (inr l)) =
            let ne : k ≡ c → ⊥ = λ (e : k ≡ c). omega arith in
            below_past (suc c) (Own k o') es l ∙ ih (sym (turn_past c k o' es ne) ∙ t) ∙ ap (λ (fs : List (Entry A)). Own c o ∷ fs) (sym (below_past c (Own k o') es (omega arith)))
    cut_own c o (Input x ∷ es) d none t = go (λ (h : (a : A) → inputs machine es c a ≡ 0). cut_own c o es d.2 h t) (cases_order x.key c)
      where
        go : (((a : A) → inputs machine es c a ≡ 0) → below (suc c) es ≡ Own c o ∷ below c es) → (x.key ≡ c) ⊎ ((x.key < c) ⊎ (c < x.key)) → below (suc c) (Input x ∷ es) ≡ Own c o ∷ below c (Input x ∷ es)
        go ih (inl e) = let h = hit_there x c e in let z = none x.action in absurd (omega arith)
        go ih (inr (inl l)) = absurd (Some≢None o (sym t ∙ no_turn c es d.2 (omega arith)))
        go ih (inr (inr l)) = below_past (suc c) (Input x) es l ∙ ih (λ a. let z = none a in omega arith) ∙ ap (λ (fs : List (Entry A)). Own c o ∷ fs) (sym (below_past c (Input x) es (omega arith)))

    -- an input at its key
    pub cut_input : (y : Item A) (es : List (Entry A)) → IsDone machine i g n s es → ((a : A) → inputs machine es y.key a ≡ hit machine y y.key a) → turn_at y.key es ≡ None
        → below (suc y.key) es ≡ Input y ∷ below y.key es
    cut_input y [] d one t = let h = hit_self machine law y in let z = one y.action in absurd (omega arith)
    cut_input y (Own k o ∷ es) d one t = go (cut_input y es d.4 one) (cases_order k y.key)
      where
        go : (turn_at y.key es ≡ None → below (suc y.key) es ≡ Input y ∷ below y.key es) → (k ≡ y.key) ⊎ ((k < y.key) ⊎ (y.key < k)) → below (suc y.key) (Own k o ∷ es) ≡ Input y ∷ below y.key (Own k o ∷ es)
        go ih (inl e) = absurd (Some≢None o (sym (turn_here y.key k o es e) ∙ t))
        go ih (inr (inl l)) = let h = hit_self machine law y in let z = one y.action in let v = no_input y.key es d.4 (omega arith) y.action in absurd (omega arith)
        go ih (inr (inr l)) =
            let ne : k ≡ y.key → ⊥ = λ (e : k ≡ y.key). omega arith in
            below_past (suc y.key) (Own k o) es l ∙ ih (sym (turn_past y.key k o es ne) ∙ t) ∙ ap (λ (fs : List (Entry A)). Input y ∷ fs) (sym (below_past y.key (Own k o) es (omega arith)))
    cut_input y (Input x ∷ es) d one t = go (λ (h : (a : A) → inputs machine es y.key a ≡ hit machine y y.key a). cut_input y es d.2 h t) (cases_order x.key y.key)
      where
        go : (((a : A) → inputs machine es y.key a ≡ hit machine y y.key a) → below (suc y.key) es ≡ Input y ∷ below y.key es) → (x.key ≡ y.key) ⊎ ((x.key < y.key) ⊎ (y.key < x.key)) → below (suc y.key) (Input x ∷ es) ≡ Input y ∷ below y.key (Input x ∷ es)
        go ih (inl e) =
            let h = hit_there x y.key e in
            let z = one x.action in
            let twin : y ≡ record { key = y.key; action = x.action } = twins (hit_cases machine law y (record { key = y.key; action = x.action })) (omega arith) in
            let same : x ≡ y = λ j. record { key = e j; action = sym (ap (λ (v : Item A). v.action) twin) j } in
            let none : (a : A) → inputs machine es y.key a ≡ 0 = λ a. let o = one a in let q : hit machine x y.key a ≡ hit machine y y.key a = ap (λ (v : Item A). hit machine v y.key a) same in omega arith in
            let rest : below y.key es ≡ es = below_same y.key es (omega arith) none t in
            below_at (suc y.key) (Input x) es (omega arith) ∙ rw (below_past y.key (Input x) es (omega arith), rest, same)
          where
            twins : (hit machine y y.key x.action ≡ 0) ⊎ (y ≡ record { key = y.key; action = x.action }) → 0 < hit machine y y.key x.action → y ≡ record { key = y.key; action = x.action }
            twins (inl e) h = absurd (omega arith)
            twins (inr e) h = e
        go ih (inr (inl l)) = let h = hit_self machine law y in let z = one y.action in let v = no_input y.key es d.2 (omega arith) y.action in let w : hit machine x y.key y.action ≡ 0 = hit_key machine law x y.key y.action (λ (e : x.key ≡ y.key). omega arith) in absurd (omega arith)
        go ih (inr (inr l)) = below_past (suc y.key) (Input x) es l ∙ ih (λ a. let z = one a in let w : hit machine x y.key a ≡ 0 = hit_key machine law x y.key a (λ (e : x.key ≡ y.key). omega arith) in omega arith) ∙ ap (λ (fs : List (Entry A)). Input y ∷ fs) (sym (below_past y.key (Input x) es (omega arith)))

    pub cut_reach : (c : ℕ) (es : List (Entry A)) → IsDone machine i g n s es → c ≤ machine.key i (number n es) → c ≤ machine.key i (number n (below c es))
    cut_reach c [] d h = h
    cut_reach c (Own k o ∷ es) d h = go (cut_reach c es d.4) (cases_lt k c)
      where
        go : (c ≤ machine.key i (number n es) → c ≤ machine.key i (number n (below c es))) → (k < c) ⊎ (c ≤ k) → c ≤ machine.key i (number n (below c (Own k o ∷ es)))
        go ih (inl l) = rw (below_at c (Own k o) es l) h
        go ih (inr l) = rw (below_past c (Own k o) es l) (ih (omega arith))
    cut_reach c (Input x ∷ es) d h = go (cut_reach c es d.2) (cases_lt x.key c)
      where
        go : (c ≤ machine.key i (number n es) → c ≤ machine.key i (number n (below c es))) → (x.key < c) ⊎ (c ≤ x.key) → c ≤ machine.key i (number n (below c (Input x ∷ es)))
        go ih (inl l) = rw (below_at c (Input x) es l) h
        go ih (inr l) = rw (below_past c (Input x) es l) (ih (omega arith))

    pub IsDone-below : (c : ℕ) (es : List (Entry A)) → IsDone machine i g n s es → IsDone machine i g n s (below c es)
    IsDone-below c [] d = d
    IsDone-below c (Own k o ∷ es) d = go (IsDone-below c es d.4) (ltb k c)
      where
        go : IsDone machine i g n s (below c es) → (b : Bool) → IsDone machine i g n s (cond b (Own k o ∷ es) (below c es))
        go ih true = d
        go ih false = ih
    IsDone-below c (Input x ∷ es) d = go (IsDone-below c es d.2) (ltb x.key c)
      where
        go : IsDone machine i g n s (below c es) → (b : Bool) → IsDone machine i g n s (cond b (Input x ∷ es) (below c es))
        go ih true = d
        go ih false = ih

    pub below_none : (es : List (Entry A)) → IsDone machine i g n s es → below g es ≡ []
    below_none [] d = refl
    below_none (Own k o ∷ es) d = let l = base_low machine law i g n s (Own k o ∷ es) d in below_past g (Own k o) es l ∙ below_none es d.4
    below_none (Input x ∷ es) d = let l = base_low machine law i g n s (Input x ∷ es) d in below_past g (Input x) es l ∙ below_none es d.2
