-- The lists of all components that may send to each.
use Rattle.std.specs.Prelude.{◌≡◌, ◌⊎◌, ℕ, ◌<◌, ◌≤◌, ◌==◌, ◌&&◌, not, Bool, true, false, List, [], ◌∷◌, map, length, Contains, slice_get, refl}
use Rattle.std.specs.List.{range_with_len}
use Rattle.std.proofs.Common.{inl, inr, zero, suc, arith, ap, sym, subst, ◌∙◌}
use Rattle.std.proofs.lemmas.Bool.{cases_lt}
use Rattle.std.proofs.lemmas.Bool.Decides.{nat_tests}
use Rattle.std.proofs.lemmas.List.FromFn.{length-map-range_with_len, get_or-map-range_with_len}
use Rattle.terms.specs.Datum.{Datum}
use Rattle.terms.specs.Named.{Named}
use Rattle.io_automata.specs.Automata.{Instance, component_at}
use Rattle.io_automata.specs.Receivers.{Rising, is_kept, kept_rising, none_past, past_absent}
use Rattle.io_automata.specs.Signatures.{receives}
use Rattle.io_automata.specs.TurnSteps.{IsOffered, outcome_offered}
use Rattle.io_automata.specs.WellFormed.{IsWellFormed}
use Rattle.senders.specs.Meeting.{may_reach, may_send, senders_of}
use Rattle.senders.specs.Senders.{AreSenders, senders_at}
use Rattle.senders.proofs.Lists.{contains_in, kept_below, kept_passes, none_in}
use Rattle.senders.proofs.Sending.{offered_by}

-- what isn't there
past_end : (xs : List (List ℕ)) (j : ℕ) → length xs ≤ j → senders_at xs j ≡ []
past_end [] j past = refl
past_end (x ∷ xs) zero past = absurd (omega (arith, past))
past_end (x ∷ xs) (suc j) past = past_end xs j (omega (arith, past))

same_number : (j : ℕ) → (j == j) ≡ true
same_number j = grind (arith, nat_tests)

no_own : (composition : List Instance) (j : ℕ) → may_send composition j j ≡ false
no_own composition j = ap (λ b. not b && may_reach (component_at composition j) (component_at composition j)) (same_number j)

module _ (composition : List Instance) (lists : List (List ℕ)) (made : lists ≡ map (senders_of composition) (range_with_len 0 (length composition))) where
  many : length lists ≡ length composition
  many = ap length made ∙ length-map-range_with_len (senders_of composition) 0 (length composition)

  at_one : (j : ℕ) → j < length composition → senders_at lists j ≡ senders_of composition j
  at_one j below = ap (λ ls. senders_at ls j) made ∙ get_or-map-range_with_len (senders_of composition) 0 (length composition) j j [] below (omega arith)

  at_any : (P : List ℕ → Type 0) (j : ℕ) → (j < length composition → P (senders_of composition j)) → P [] → P (senders_at lists j)
  at_any P j some none = go (cases_lt j (length composition)) where
    go : (j < length composition) ⊎ (length composition ≤ j) → P (senders_at lists j)
    go (inl below) = subst P (sym (at_one j below)) (some below)
    go (inr past) = let long = many in subst P (sym (past_end lists j (omega (arith, long, past)))) none

  pub rising : (j : ℕ) → Rising 0 (senders_at lists j)
  rising j = at_any (Rising 0) j (λ below. kept_rising (may_send composition j) 0 (length composition)) tt

  within : (j i : ℕ) → Contains (senders_at lists j) i → i < length composition
  within j i = at_any (λ l. Contains l i → i < length composition) j (λ below stands. kept_below (may_send composition j) (length composition) i stands) (λ stands. absurd (none_in i stands))

  pub only : (j i : ℕ) → Contains (senders_at lists j) i → may_send composition j i ≡ true
  only j i = at_any (λ l. Contains l i → may_send composition j i ≡ true) j (λ below stands. kept_passes (may_send composition j) (length composition) i stands) (λ stands. absurd (none_in i stands))

  pub no_other : (j : ℕ) → Contains (senders_at lists j) j → ⊥
  no_other j stands = let both : ◌≡◌ {A = Bool} false true = sym (no_own composition j) ∙ only j j stands in cc

  -- who has an entry is there
  there : (i : ℕ) (state : List Datum) (action : Named) → IsOffered (component_at composition i) state action → i < length composition
  there i state action offered = go (cases_lt i (length composition)) where
    go : (i < length composition) ⊎ (length composition ≤ i) → i < length composition
    go (inl below) = below
    go (inr past) = let none = ap (λ (x : Instance). slice_get x.entries offered.place) (sym (past_absent composition i past)) ∙ offered.at in cc

  takes_there : (i j : ℕ) (action : Named) → receives composition i action j ≡ true → j < length composition
  takes_there i j action takes = go (cases_lt j (length composition)) where
    go : (j < length composition) ⊎ (length composition ≤ j) → j < length composition
    go (inl below) = below
    go (inr past) = let both : ◌≡◌ {A = Bool} false true = sym (none_past composition action i j past) ∙ takes in cc

  pub are_senders : IsWellFormed composition → AreSenders composition lists
  are_senders formed = record {
    many = many;
    within = within;
    all = λ i j task choice state action is takes.
        let offered = outcome_offered composition formed i task choice state action is in
        let here = there i state action offered in
        let sends = offered_by composition formed i j task choice state action offered takes in
        subst (λ l. Contains l i) (sym (at_one j (takes_there i j action takes)))
        (contains_in i (senders_of composition j) (is_kept (may_send composition j) i 0 (length composition) (omega arith) (omega (arith, here)) ∙ sends));
  }
