-- A component takes its own action, and the action reaches others.
use Rattle.std.proofs.Common.{◌≡◌, ℕ, ◌<◌, ◌⊎◌, inl, inr, Bool, true, false, Option, None, Some, List, ◌∷◌, length, refl, ap, sym, subst, ◌∙◌, arith}
use Rattle.std.specs.Prelude.{cond, ◌==◌, slice_get, slice_set, slice_index_or, option_map}
use Rattle.std.proofs.lemmas.Bool.{cases_eq, eq-eqb, ne_eqb}
use Rattle.std.proofs.lemmas.Option.{slice_get-get_or}
use Rattle.terms.specs.Named.{Named}
use Rattle.undo_records.specs.States.{States, undone, without_first}
use Rattle.io_automata.specs.Automata.{Instance}
use Rattle.io_automata.specs.Receivers.{IsIn}
use Rattle.reference.specs.Taking.{IsPassed, changed, holding, marking, other_than, reaching, received, released}
use Rattle.reference.proofs.Takers.{get_same, get_other, same_lists, slice_set-length}

some_same : {X : Type 0} (a b : X) → Some a ≡ Some b → a ≡ b
some_same a b e = cc

-- component i, which stands at n, was marked and changed by its action
module _ (c : List Instance) (i : ℕ) (a : Named) (olds : List States) (n : ℕ) (n_is : n ≡ i) (within : n < length olds) (d marked : States) (marked_is : marked ≡ marking c i a (slice_index_or olds n d)) where
  abbrev mids : List States
  mids = slice_set olds n marked

  abbrev old : States
  old = slice_index_or olds n d

  there : slice_get olds n ≡ Some old
  there = slice_get-get_or olds n d within

  short : n < length mids
  short = let same = slice_set-length olds n marked in omega (arith, same, within)

  -- where the action reached nobody, all is as it was once the mark is undone
  pub own_back : (news : List States) → news ≡ slice_set olds n marked → (e back : States) → back ≡ undone (slice_index_or news n e) → slice_set news n back ≡ olds
  own_back news same e back back_is = ap (λ l. slice_set l n back) same ∙ same_lists (slice_set mids n back) olds each where
    at : slice_index_or mids n e ≡ marked
    at = some_same (slice_index_or mids n e) marked (sym (slice_get-get_or mids n e short) ∙ get_same olds n marked within)

    was : back ≡ old
    was = back_is ∙ ap (λ l. undone (slice_index_or l n e)) same ∙ ap undone at ∙ ap undone marked_is

    each : (j : ℕ) → slice_get (slice_set mids n back) j ≡ slice_get olds j
    each j = go (cases_eq j n) where
      go : (j ≡ n) ⊎ (j ≡ n → ⊥) → slice_get (slice_set mids n back) j ≡ slice_get olds j
      go (inl is) = subst (λ k. slice_get (slice_set mids n back) k ≡ slice_get olds k) (sym is) (get_same mids n back short ∙ ap (λ s. Some s) was ∙ sym there)
      go (inr other) = get_other mids n back j other ∙ get_other olds n marked j other

  -- once it reached these, each of them holds its mark
  pub all_hold : (among : List ℕ) (news : List States) → IsPassed (reaching c i a) among (slice_set olds n marked) news → (j : ℕ) → slice_get news j ≡ option_map (holding c i a among j) (slice_get olds j)
  all_hold among news passed j = go (cases_eq j n) where
    own : (n == i) ≡ true
    own = eq-eqb n i n_is

    stays : (there itself : Bool) → itself ≡ true → cond there (cond itself marked (record { current = received c a n marked.current; below = marked.current ∷ marked.below })) marked ≡ marked
    stays true true is = refl
    stays true false is = let other : ◌≡◌ {A = Bool} false true = is in cc
    stays false itself is = refl

    here : slice_get news n ≡ option_map (holding c i a among n) (slice_get olds n)
    here =
        passed.each n ∙ ap (option_map (changed (reaching c i a) among n)) (get_same olds n marked within)
        ∙ ap (λ s. Some s) (stays (IsIn n among) (n == i) own ∙ marked_is)
        ∙ sym (ap (option_map (holding c i a among n)) there ∙ ap (λ b. Some (cond b (marking c i a old) (changed (reaching c i a) among n old))) own)

    go : (j ≡ n) ⊎ (j ≡ n → ⊥) → slice_get news j ≡ option_map (holding c i a among j) (slice_get olds j)
    go (inl is) = subst (λ k. slice_get news k ≡ option_map (holding c i a among k) (slice_get olds k)) (sym is) here
    go (inr other) =
        let apart : (j == i) ≡ false = ne_eqb j i (λ is. other (is ∙ sym n_is)) in
        passed.each j ∙ ap (option_map (changed (reaching c i a) among j)) (get_other olds n marked j other)
        ∙ sym (ap (λ b. option_map (λ s. cond b (marking c i a s) (changed (reaching c i a) among j s)) (slice_get olds j)) apart)

-- these components but component i, which stands at n, forgot their first marks
module _ (i : ℕ) (among : List ℕ) (olds nows : List States) (passed : IsPassed (other_than i (without_first 1)) among olds nows) (n : ℕ) (n_is : n ≡ i) (within : n < length nows) (d : States) where
  its : (n == i) ≡ true
  its = eq-eqb n i n_is

  as_before : (o : Option States) → option_map (changed (other_than i (without_first 1)) among n) o ≡ o
  as_before None = refl
  as_before (Some s) = ap (λ x. Some x) (stays (IsIn n among) (n == i) its) where
    stays : (there itself : Bool) → itself ≡ true → cond there (cond itself s (without_first 1 s)) s ≡ s
    stays true true is = refl
    stays true false is = let other : ◌≡◌ {A = Bool} false true = is in cc
    stays false itself is = refl

  -- its state is as it was
  pub own_before : slice_get olds n ≡ Some (slice_index_or nows n d)
  own_before = sym (passed.each n ∙ as_before (slice_get olds n)) ∙ slice_get-get_or nows n d within

  -- it forgets its first too
  pub all_released : (new : States) → new ≡ without_first 1 (slice_index_or nows n d) → (j : ℕ) → slice_get (slice_set nows n new) j ≡ option_map (released i among j) (slice_get olds j)
  all_released new new_is j = go (cases_eq j n) where
    here : slice_get (slice_set nows n new) n ≡ option_map (released i among n) (slice_get olds n)
    here =
        get_same nows n new within ∙ ap (λ s. Some s) new_is
        ∙ sym (ap (option_map (released i among n)) own_before ∙ ap (λ b. Some (cond b (without_first 1 (slice_index_or nows n d)) (changed (other_than i (without_first 1)) among n (slice_index_or nows n d)))) its)

    go : (j ≡ n) ⊎ (j ≡ n → ⊥) → slice_get (slice_set nows n new) j ≡ option_map (released i among j) (slice_get olds j)
    go (inl is) = subst (λ k. slice_get (slice_set nows n new) k ≡ option_map (released i among k) (slice_get olds k)) (sym is) here
    go (inr other) =
        let apart : (j == i) ≡ false = ne_eqb j i (λ is. other (is ∙ sym n_is)) in
        get_other nows n new j other ∙ passed.each j
        ∙ sym (ap (λ b. option_map (λ s. cond b (without_first 1 s) (changed (other_than i (without_first 1)) among j s)) (slice_get olds j)) apart)

-- those that took the action have a mark
pub hold_marks : (c : List Instance) (i : ℕ) (a : Named) (among : List ℕ) (olds nows : List States) → ((j : ℕ) → slice_get nows j ≡ option_map (holding c i a among j) (slice_get olds j))
    → (j : ℕ) (state : States) → (j ≡ i) ⊎ (IsIn j among ≡ true) → slice_get nows j ≡ Some state → 0 < length state.below
hold_marks c i a among olds nows hold j state takes at = go (slice_get olds j) (sym (hold j) ∙ at) where
  one : (s : States) → 0 < length (holding c i a among j s).below
  one s = by (j == i) refl (IsIn j among) refl where
    by : (own : Bool) → (j == i) ≡ own → (there : Bool) → IsIn j among ≡ there → 0 < length (cond own (marking c i a s) (cond there (cond own s (record { current = received c a j s.current; below = s.current ∷ s.below })) s)).below
    by true own there is = omega arith
    by false own true is = omega arith
    by false own false is = out takes where
      out : (j ≡ i) ⊎ (IsIn j among ≡ true) → 0 < length s.below
      out (inl same) = let both : ◌≡◌ {A = Bool} true false = sym (eq-eqb j i same) ∙ own in cc
      out (inr in_there) = let both : ◌≡◌ {A = Bool} true false = sym in_there ∙ is in cc

  go : (o : Option States) → option_map (holding c i a among j) o ≡ Some state → 0 < length state.below
  go None e = cc
  go (Some s) e = subst (λ x. 0 < length x.below) (some_same (holding c i a among j s) state e) (one s)
