-- Counts of done entries: at most one send of each key, and nothing before the base.
use Rattle.std.proofs.Common.{◌≡◌, ℕ, ◌<◌, ◌≤◌, ◌⊎◌, inl, inr, Bool, true, false, cond, Option, None, Some, List, [], ◌∷◌, refl, ap, sym, subst, ◌∙◌, arith}
use Rattle.std.proofs.lemmas.Bool.{cases_lt}
use Rattle.virtual_time.specs.Machine.{Lawful, Machine}
use Rattle.virtual_time.specs.Entries.{Entry, Input, Item, Own, below, turn_at}
use Rattle.virtual_time.specs.Bags.{hit, hit_own, inputs, owns, sends}
use Rattle.virtual_time.specs.Rules.{IsDone}
use Rattle.virtual_time.proofs.Counts.{hit_cases, hit_self, hit_key}
use Rattle.virtual_time.proofs.Lists.{base_low}
use Rattle.virtual_time.proofs.Cuts.{below_at, below_past, turn_past, no_turn, no_owns, owns_at}

module _ {S A : Type 0} (machine : Machine S A) (law : Lawful machine) where
  pub hit_one : (x : Item A) (k : ℕ) (a : A) → hit machine x k a ≤ 1
  hit_one x k a = go (hit_cases machine law x (record { key = k; action = a }))
    where
      go : (hit machine x k a ≡ 0) ⊎ (x ≡ record { key = k; action = a }) → hit machine x k a ≤ 1
      go (inl e) = omega arith
      go (inr e) =
          let h = hit_self machine law x in
          let f : hit machine x k a ≡ 1 = subst (λ (y : Item A). hit machine x y.key y.action ≡ 1) e h in
          omega arith

  pub hit_own_one : (k : ℕ) (o : Option A) (k' : ℕ) (a : A) → hit_own machine k o k' a ≤ 1
  hit_own_one k None k' a = omega arith
  hit_own_one k (Some b) k' a = hit_one (record { key = k; action = b }) k' a

  module _ (i g n : ℕ) (s : S) where
    pub owns_one : (es : List (Entry A)) → IsDone machine i g n s es → (k : ℕ) (a : A) → owns machine es k a ≤ 1
    owns_one es d k a = go (turn_at k es) refl
      where
        go : (t : Option (Option A)) → turn_at k es ≡ t → owns machine es k a ≤ 1
        go None e = let z = no_owns machine law i g n s k es e a in omega arith
        go (Some o) e = let z = owns_at machine law i g n s k o es d e a in let h = hit_own_one k o k a in omega arith

    pub sends_one : (es : List (Entry A)) → IsDone machine i g n s es → (k : ℕ) (a : A) (j : ℕ) → sends machine es k a j ≤ 1
    unfolding sends
    sends_one es d k a j = go (machine.receives (machine.owner k) a j) (owns_one es d k a)
      where
        go : (v : Bool) → owns machine es k a ≤ 1 → cond v (owns machine es k a) 0 ≤ 1
        go true h = h
        go false h = omega arith

    pub inputs_low : (es : List (Entry A)) → IsDone machine i g n s es → (k : ℕ) → k < g → (a : A) → inputs machine es k a ≡ 0
    inputs_low [] d k l a = refl
    inputs_low (Own k' o ∷ es) d k l a = inputs_low es d.4 k l a
    inputs_low (Input x ∷ es) d k l a =
        let h = base_low machine law i g n s (Input x ∷ es) d in
        let z : hit machine x k a ≡ 0 = hit_key machine law x k a (λ (e : x.key ≡ k). omega arith) in
        let r = inputs_low es d.2 k l a in
        omega arith

    pub turn_low : (es : List (Entry A)) → IsDone machine i g n s es → (k : ℕ) → k < g → turn_at k es ≡ None
    turn_low [] d k l = refl
    turn_low (Own k' o ∷ es) d k l =
        let h = base_low machine law i g n s (Own k' o ∷ es) d in
        turn_past k k' o es (λ (e : k' ≡ k). omega arith) ∙ turn_low es d.4 k l
    turn_low (Input x ∷ es) d k l = turn_low es d.2 k l

    pub sends_low : (es : List (Entry A)) → IsDone machine i g n s es → (k : ℕ) → k < g → (a : A) (j : ℕ) → sends machine es k a j ≡ 0
    unfolding sends
    sends_low es d k l a j = go (machine.receives (machine.owner k) a j) (no_owns machine law i g n s k es (turn_low es d k l) a)
      where
        go : (v : Bool) → owns machine es k a ≡ 0 → cond v (owns machine es k a) 0 ≡ 0
        go true h = h
        go false h = refl

    -- the turn at k of the entries below b
    pub turn_below : (b k : ℕ) (es : List (Entry A)) → IsDone machine i g n s es → k < b → turn_at k (below b es) ≡ turn_at k es
    turn_below b k [] d l = refl
    turn_below b k (Own k' o ∷ es) d l = go (turn_below b k es d.4 l) (cases_lt k' b)
      where
        go : turn_at k (below b es) ≡ turn_at k es → (k' < b) ⊎ (b ≤ k') → turn_at k (below b (Own k' o ∷ es)) ≡ turn_at k (Own k' o ∷ es)
        go ih (inl h) = ap (turn_at k) (below_at b (Own k' o) es h)
        go ih (inr h) = ap (turn_at k) (below_past b (Own k' o) es h) ∙ ih ∙ sym (turn_past k k' o es (λ (e : k' ≡ k). omega arith))
    turn_below b k (Input x ∷ es) d l = go (turn_below b k es d.2 l) (cases_lt x.key b)
      where
        go : turn_at k (below b es) ≡ turn_at k es → (x.key < b) ⊎ (b ≤ x.key) → turn_at k (below b (Input x ∷ es)) ≡ turn_at k es
        go ih (inl h) = ap (turn_at k) (below_at b (Input x) es h)
        go ih (inr h) = ap (turn_at k) (below_past b (Input x) es h) ∙ ih

    pub turn_above : (b k : ℕ) (es : List (Entry A)) → IsDone machine i g n s es → b ≤ k → turn_at k (below b es) ≡ None
    turn_above b k [] d l = refl
    turn_above b k (Own k' o ∷ es) d l = go (turn_above b k es d.4 l) (cases_lt k' b)
      where
        go : turn_at k (below b es) ≡ None → (k' < b) ⊎ (b ≤ k') → turn_at k (below b (Own k' o ∷ es)) ≡ None
        go ih (inl h) = ap (turn_at k) (below_at b (Own k' o) es h) ∙ turn_past k k' o es (λ (e : k' ≡ k). omega arith) ∙ no_turn machine law i g n s k es d.4 (omega arith)
        go ih (inr h) = ap (turn_at k) (below_past b (Own k' o) es h) ∙ ih
    turn_above b k (Input x ∷ es) d l = go (turn_above b k es d.2 l) (cases_lt x.key b)
      where
        go : turn_at k (below b es) ≡ None → (x.key < b) ⊎ (b ≤ x.key) → turn_at k (below b (Input x ∷ es)) ≡ None
        go ih (inl h) = ap (turn_at k) (below_at b (Input x) es h) ∙ no_turn machine law i g n s k es d.2 (omega arith)
        go ih (inr h) = ap (turn_at k) (below_past b (Input x) es h) ∙ ih
