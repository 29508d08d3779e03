-- Turns of two lists put together keep their outcomes.
use Rattle.std.proofs.Common.{◌≡◌, ℕ, ◌<◌, ◌≤◌, ◌==◌, ◌⊎◌, inl, inr, Bool, true, false, cond, Option, None, Some, List, [], ◌∷◌, refl, sym, subst, ◌∙◌, arith, ltb}
use Rattle.std.proofs.lemmas.Bool.{ltb-true, ltb-false, eq-eqb, ne_eqb, cases_eq}
use Rattle.std.specs.Option.{option_or}
use Rattle.virtual_time.specs.Reference.{AllBelow, Falls, Turn, outcome_at}
use Rattle.virtual_time.specs.Exchange.Merged.{put_turn, put_turns}
use Rattle.virtual_time.proofs.Cuts.{Some≢None}

module _ {A : Type 0} where
  all_lower : (b c : ℕ) (ts : List (Turn A)) → b ≤ c → AllBelow b ts → AllBelow c ts
  all_lower b c [] h p = tt
  all_lower b c (t ∷ ts) h p = let l = p.0 in (omega arith, all_lower b c ts h p.1)

  none_below : (c : ℕ) (ts : List (Turn A)) → AllBelow c ts → outcome_at c ts ≡ None
  none_below c [] p = refl
  none_below c (t ∷ ts) p = let l = p.0 in rw (ne_eqb t.key c (λ (e : t.key ≡ c). omega arith)) (none_below c ts p.1)

  put_outcome : (t : Turn A) (us : List (Turn A)) (k : ℕ) → (t.key ≡ k → outcome_at k us ≡ None) → outcome_at k (put_turn t us) ≡ cond (t.key == k) (Some t.outcome) (outcome_at k us)
  put_outcome t [] k apart = refl
  put_outcome t (u ∷ us) k apart = go (ltb u.key t.key) (cases_eq u.key k) (put_outcome t us k)
    where
      go : (b : Bool) → (u.key ≡ k) ⊎ (u.key ≡ k → ⊥) → ((t.key ≡ k → outcome_at k us ≡ None) → outcome_at k (put_turn t us) ≡ cond (t.key == k) (Some t.outcome) (outcome_at k us))
          → outcome_at k (cond b (t ∷ u ∷ us) (u ∷ put_turn t us)) ≡ cond (t.key == k) (Some t.outcome) (outcome_at k (u ∷ us))
      go true c ih = refl
      go false (inl e) ih = other (cases_eq t.key k)
        where
          here : outcome_at k (u ∷ us) ≡ Some u.outcome
          here = rw (eq-eqb u.key k e)

          other : (t.key ≡ k) ⊎ (t.key ≡ k → ⊥) → outcome_at k (u ∷ put_turn t us) ≡ cond (t.key == k) (Some t.outcome) (outcome_at k (u ∷ us))
          other (inl f) = let q : ◌≡◌ {A = Option (Option A)} (Some u.outcome) None = sym here ∙ apart f in absurd (Some≢None u.outcome q)
          other (inr ne) = rw (ne_eqb t.key k ne, eq-eqb u.key k e)
      go false (inr ne) ih = rw (ne_eqb u.key k ne) (ih (λ (f : t.key ≡ k). subst (λ (b : Bool). cond b (Some u.outcome) (outcome_at k us) ≡ None) (ne_eqb u.key k ne) (apart f)))

  put_below : (c : ℕ) (t : Turn A) (us : List (Turn A)) → t.key < c → AllBelow c us → AllBelow c (put_turn t us)
  put_below c t [] l p = (l, tt)
  put_below c t (u ∷ us) l p = go (ltb u.key t.key) (put_below c t us l p.1)
    where
      go : (b : Bool) → AllBelow c (put_turn t us) → AllBelow c (cond b (t ∷ u ∷ us) (u ∷ put_turn t us))
      go true h = (l, p)
      go false h = (p.0, h)

  put_falls : (t : Turn A) (us : List (Turn A)) → Falls us → outcome_at t.key us ≡ None → Falls (put_turn t us)
  put_falls t [] f n = (tt, tt)
  put_falls t (u ∷ us) f n = go (ltb u.key t.key) refl (cases_eq u.key t.key) (put_falls t us f.1)
    where
      go : (b : Bool) → ltb u.key t.key ≡ b → (u.key ≡ t.key) ⊎ (u.key ≡ t.key → ⊥) → (outcome_at t.key us ≡ None → Falls (put_turn t us)) → Falls (cond b (t ∷ u ∷ us) (u ∷ put_turn t us))
      go b e (inl q) ih =
          let h : outcome_at t.key (u ∷ us) ≡ Some u.outcome = rw (eq-eqb u.key t.key q) in
          absurd (Some≢None u.outcome (sym h ∙ n))
      go true e (inr ne) ih = let l = ltb-true u.key t.key e in ((l, all_lower u.key t.key us (omega arith) f.0), f)
      go false e (inr ne) ih =
          let l = ltb-false u.key t.key e in
          let low : t.key < u.key = less l ne in
          let m : outcome_at t.key us ≡ None = subst (λ (b : Bool). cond b (Some u.outcome) (outcome_at t.key us) ≡ None) (ne_eqb u.key t.key ne) n in
          (put_below u.key t us low f.0, ih m)
        where
          less : t.key ≤ u.key → (u.key ≡ t.key → ⊥) → t.key < u.key
          less l d = pick (cases_eq u.key t.key)
            where
              pick : (u.key ≡ t.key) ⊎ (u.key ≡ t.key → ⊥) → t.key < u.key
              pick (inl q) = absurd (d q)
              pick (inr q) = omega arith

  -- no key is in both lists
  abbrev Apart : List (Turn A) → List (Turn A) → Type 0
  Apart ts us = (k : ℕ) (o : Option A) → outcome_at k ts ≡ Some o → outcome_at k us ≡ None

  module _ (t : Turn A) (ts us : List (Turn A)) (low : AllBelow t.key ts) (apart : Apart (t ∷ ts) us) where
    first : outcome_at t.key us ≡ None
    first = apart t.key t.outcome (rw (eq-eqb t.key t.key refl))

    pub first_put : Falls us → Falls (put_turn t us)
    first_put f = put_falls t us f first

    pub put_at : (k : ℕ) → outcome_at k (put_turn t us) ≡ cond (t.key == k) (Some t.outcome) (outcome_at k us)
    put_at k = put_outcome t us k (λ (e : t.key ≡ k). subst (λ (n : ℕ). outcome_at n us ≡ None) e first)

    pub still_apart : Apart ts (put_turn t us)
    still_apart k o h = go (cases_eq t.key k)
      where
        go : (t.key ≡ k) ⊎ (t.key ≡ k → ⊥) → outcome_at k (put_turn t us) ≡ None
        go (inl e) = absurd (Some≢None o (sym h ∙ subst (λ (n : ℕ). outcome_at n ts ≡ None) e (none_below t.key ts low)))
        go (inr ne) = put_at k ∙ rw (ne_eqb t.key k ne) (apart k o (rw (ne_eqb t.key k ne) h))

    pub either_way : (k : ℕ) → option_or (outcome_at k ts) (outcome_at k (put_turn t us)) ≡ option_or (outcome_at k (t ∷ ts)) (outcome_at k us)
    either_way k = go (cases_eq t.key k)
      where
        go : (t.key ≡ k) ⊎ (t.key ≡ k → ⊥) → option_or (outcome_at k ts) (outcome_at k (put_turn t us)) ≡ option_or (outcome_at k (t ∷ ts)) (outcome_at k us)
        go (inl e) =
            let none : outcome_at k ts ≡ None = subst (λ (n : ℕ). outcome_at n ts ≡ None) e (none_below t.key ts low) in
            let there : outcome_at k (put_turn t us) ≡ Some t.outcome = put_at k ∙ rw (eq-eqb t.key k e) in
            rw (none, there, eq-eqb t.key k e)
        go (inr ne) =
            let there : outcome_at k (put_turn t us) ≡ outcome_at k us = put_at k ∙ rw (ne_eqb t.key k ne) in
            rw (there, ne_eqb t.key k ne)

  pub merged_falls : (ts us : List (Turn A)) → Falls ts → Falls us → Apart ts us → Falls (put_turns ts us)
  merged_falls [] us f g apart = g
  merged_falls (t ∷ ts) us f g apart = merged_falls ts (put_turn t us) f.1 (first_put t ts us f.0 apart g) (still_apart t ts us f.0 apart)

  pub merged_outcomes : (ts us : List (Turn A)) → Falls ts → Falls us → Apart ts us → (k : ℕ) → outcome_at k (put_turns ts us) ≡ option_or (outcome_at k ts) (outcome_at k us)
  merged_outcomes [] us f g apart k = refl
  merged_outcomes (t ∷ ts) us f g apart k = merged_outcomes ts (put_turn t us) f.1 (first_put t ts us f.0 apart g) (still_apart t ts us f.0 apart) k ∙ either_way t ts us f.0 apart k
