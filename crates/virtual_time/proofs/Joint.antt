-- The done own turns below a bound that global virtual time has reached go on with the simulator's run.
use Rattle.std.proofs.Common.{◌≡◌, ℕ, zero, suc, ◌+◌, ◌<◌, ◌≤◌, ◌==◌, ◌⊎◌, inl, inr, Bool, true, false, cond, Option, None, Some, List, [], ◌∷◌, refl, ap, sym, subst, ◌∙◌, arith}
use Rattle.std.proofs.lemmas.Bool.{eq-eqb, ne_eqb, cases_eq}
use Rattle.virtual_time.specs.Machine.{Lawful, Machine}
use Rattle.virtual_time.specs.Reference.{AllBelow, IsRun, Turn, add_turn, after, joint}
use Rattle.virtual_time.specs.Bags.{AllFrom, hit, hit_own, inputs, owns, sends, times}
use Rattle.virtual_time.specs.Entries.{Entry, Input, Item, Own, below, number, replay, turn_at}
use Rattle.virtual_time.specs.Worlds.{CanCommit, World, gather}
use Rattle.virtual_time.specs.Rules.{IsDone, IsWorld}
use Rattle.virtual_time.proofs.Counts.{hit_cases, hit_key}
use Rattle.virtual_time.proofs.Cuts.{turn_past, Some≢None, cut_skip, cut_own, cut_input, cut_reach, IsDone-below, below_none, owns_at, no_owns}

module _ {S A : Type 0} (machine : Machine S A) (law : Lawful machine) where
  pub all_zero : (b c : ℕ) (xs : List (Item A)) → AllFrom b xs → c < b → (a : A) → times machine xs c a ≡ 0
  all_zero b c [] p h a = refl
  all_zero b c (x ∷ xs) p h a =
      let r = all_zero b c xs p.1 h a in
      let l = p.0 in
      let z : hit machine x c a ≡ 0 = hit_key machine law x c a (λ (e : x.key ≡ c). omega arith) in
      omega arith

  pub own_owner : (i g n : ℕ) (s : S) (c : ℕ) (o : Option A) (es : List (Entry A)) → IsDone machine i g n s es → turn_at c es ≡ Some o → machine.owner c ≡ i
  own_owner i g n s c o [] d t = absurd (Some≢None o (sym t))
  own_owner i g n s c o (Own k o' ∷ es) d t = go (own_owner i g n s c o es d.4) (cases_eq k c)
    where
      go : (turn_at c es ≡ Some o → machine.owner c ≡ i) → (k ≡ c) ⊎ (k ≡ c → ⊥) → machine.owner c ≡ i
      go ih (inl e) = ap machine.owner (sym e ∙ d.0) ∙ law.owned i (number n es) (omega arith)
      go ih (inr ne) = ih (sym (turn_past c k o' es ne) ∙ t)
  own_owner i g n s c o (Input x ∷ es) d t = own_owner i g n s c o es d.2 t

  -- what an own turn at c has to be
  pub own_at : (i g n : ℕ) (s : S) (c : ℕ) (o : Option A) (es : List (Entry A)) → IsDone machine i g n s es → ((a : A) → inputs machine es c a ≡ 0) → turn_at c es ≡ Some o
      → IsDone machine i g n s (Own c o ∷ below c es)
  own_at i g n s c o es d none t = subst (λ (fs : List (Entry A)). IsDone machine i g n s fs) (cut_own machine law i g n s c o es d none t) (IsDone-below machine law i g n s (suc c) es d)

  pub AllBelow-weaken : (b c : ℕ) (ts : List (Turn A)) → b ≤ c → AllBelow b ts → AllBelow c ts
  AllBelow-weaken b c [] h p = tt
  AllBelow-weaken b c (t ∷ ts) h p = let l = p.0 in (omega arith, AllBelow-weaken b c ts h p.1)

  pub record Reached (w : World S A) (c : ℕ) (ts : List (Turn A)) : Type 0 where
    pub run : IsRun machine ts
    pub below_c : AllBelow c ts
    pub next : (j : ℕ) → (after machine ts).next j ≡ number (w.part j).first (below c (w.part j).done)
    pub state : (j : ℕ) → (after machine ts).state j ≡ replay machine j (w.part j).base (below c (w.part j).done)

  module _ (w : World S A) (is : IsWorld machine w) (b : ℕ) (can : CanCommit machine w b) (c : ℕ) (low : w.bound ≤ c) (high : c < b) where
    pub inputs_are : (j : ℕ) (a : A) → inputs machine (w.part j).done c a ≡ cond (machine.receives (machine.owner c) a j) (owns machine (w.part (machine.owner c)).done c a) 0
    unfolding sends
    inputs_are j a =
        let bal = is.balance j c a low in
        let past = can.not_ahead j in
        let z1 = all_zero b c (w.part j).pending past.pending high a in
        let z2 = all_zero b c (w.part j).plus past.plus high a in
        let z3 = all_zero b c (w.part j).minus past.minus high a in
        let o = (is.proper j).owed c a in
        omega arith

    pub nothing_else : (j : ℕ) → (machine.owner c ≡ j → ⊥) → turn_at c (w.part j).done ≡ None
    nothing_else j ne = go (turn_at c (w.part j).done) refl
      where
        go : (t : Option (Option A)) → turn_at c (w.part j).done ≡ t → turn_at c (w.part j).done ≡ None
        go None e = e
        go (Some o) e = absurd (ne (own_owner j w.bound (w.part j).first (w.part j).base c o (w.part j).done (is.proper j).done e))

    pub skip_all : turn_at c (w.part (machine.owner c)).done ≡ None → (j : ℕ) → below (suc c) (w.part j).done ≡ below c (w.part j).done
    skip_all t j = cut_skip machine law c (w.part j).done none (go (cases_eq (machine.owner c) j))
      where
        none : (a : A) → inputs machine (w.part j).done c a ≡ 0
        none a = let i = inputs_are j a in rw (i, no_owns machine law (machine.owner c) w.bound (w.part (machine.owner c)).first (w.part (machine.owner c)).base c (w.part (machine.owner c)).done t a) (both (machine.receives (machine.owner c) a j))
          where
            both : (v : Bool) → ◌≡◌ {A = ℕ} (cond v 0 0) 0
            both true = refl
            both false = refl

        go : (machine.owner c ≡ j) ⊎ (machine.owner c ≡ j → ⊥) → turn_at c (w.part j).done ≡ None
        go (inl e) = subst (λ (l : ℕ). turn_at c (w.part l).done ≡ None) e t
        go (inr ne) = nothing_else j ne

    module _ (o : Option A) (t : turn_at c (w.part (machine.owner c)).done ≡ Some o) where
      pub inputs_of : (j : ℕ) (a : A) → inputs machine (w.part j).done c a ≡ cond (machine.receives (machine.owner c) a j) (hit_own machine c o c a) 0
      inputs_of j a = inputs_are j a ∙ ap (λ (m : ℕ). cond (machine.receives (machine.owner c) a j) m 0)
          (owns_at machine law (machine.owner c) w.bound (w.part (machine.owner c)).first (w.part (machine.owner c)).base c o (w.part (machine.owner c)).done (is.proper (machine.owner c)).done t a)

      pub none_own : (a : A) → inputs machine (w.part (machine.owner c)).done c a ≡ 0
      none_own a = inputs_of (machine.owner c) a ∙ rw (law.others (machine.owner c) a)

      -- the entries at c of each component: the own turn, what it sent, or nothing
      pub at_own : below (suc c) (w.part (machine.owner c)).done ≡ Own c o ∷ below c (w.part (machine.owner c)).done
      at_own = cut_own machine law (machine.owner c) w.bound (w.part (machine.owner c)).first (w.part (machine.owner c)).base c o (w.part (machine.owner c)).done (is.proper (machine.owner c)).done none_own t

    pub at_idle : (j : ℕ) → (machine.owner c ≡ j → ⊥) → turn_at c (w.part (machine.owner c)).done ≡ Some None → below (suc c) (w.part j).done ≡ below c (w.part j).done
    at_idle j ne t = cut_skip machine law c (w.part j).done (λ a. inputs_of None t j a ∙ both (machine.receives (machine.owner c) a j)) (nothing_else j ne)
      where
        both : (v : Bool) → ◌≡◌ {A = ℕ} (cond v 0 0) 0
        both true = refl
        both false = refl

    pub at_other : (j : ℕ) (a : A) → (machine.owner c ≡ j → ⊥) → turn_at c (w.part (machine.owner c)).done ≡ Some (Some a) → machine.receives (machine.owner c) a j ≡ false
        → below (suc c) (w.part j).done ≡ below c (w.part j).done
    at_other j a ne t r = cut_skip machine law c (w.part j).done (λ a'. none a' (hit_cases machine law (record { key = c; action = a }) (record { key = c; action = a' }))) (nothing_else j ne)
      where
        zero_hit : (v : Bool) (h : ℕ) → h ≡ 0 → cond v h 0 ≡ 0
        zero_hit true h e = e
        zero_hit false h e = refl

        none : (a' : A) → (hit machine (record { key = c; action = a }) c a' ≡ 0) ⊎ (◌≡◌ {A = Item A} (record { key = c; action = a }) (record { key = c; action = a' })) → inputs machine (w.part j).done c a' ≡ 0
        none a' (inl e) = inputs_of (Some a) t j a' ∙ zero_hit (machine.receives (machine.owner c) a' j) (hit machine (record { key = c; action = a }) c a') e
        none a' (inr e) =
            let same : machine.receives (machine.owner c) a' j ≡ false = sym (ap (λ (x : Item A). machine.receives (machine.owner c) x.action j) e) ∙ r in
            inputs_of (Some a) t j a' ∙ rw same

    pub at_receiver : (j : ℕ) (a : A) → (machine.owner c ≡ j → ⊥) → turn_at c (w.part (machine.owner c)).done ≡ Some (Some a) → machine.receives (machine.owner c) a j ≡ true
        → below (suc c) (w.part j).done ≡ Input (record { key = c; action = a }) ∷ below c (w.part j).done
    at_receiver j a ne t r =
        cut_input machine law j w.bound (w.part j).first (w.part j).base (record { key = c; action = a }) (w.part j).done (is.proper j).done
        (λ a'. one a' (hit_cases machine law (record { key = c; action = a }) (record { key = c; action = a' }))) (nothing_else j ne)
      where
        zero_hit : (v : Bool) (h : ℕ) → h ≡ 0 → cond v h 0 ≡ h
        zero_hit true h e = refl
        zero_hit false h e = sym e

        one : (a' : A) → (hit machine (record { key = c; action = a }) c a' ≡ 0) ⊎ (◌≡◌ {A = Item A} (record { key = c; action = a }) (record { key = c; action = a' })) → inputs machine (w.part j).done c a' ≡ hit machine (record { key = c; action = a }) c a'
        one a' (inl e) = inputs_of (Some a) t j a' ∙ zero_hit (machine.receives (machine.owner c) a' j) (hit machine (record { key = c; action = a }) c a') e
        one a' (inr e) =
            let same : machine.receives (machine.owner c) a' j ≡ true = sym (ap (λ (x : Item A). machine.receives (machine.owner c) x.action j) e) ∙ r in
            inputs_of (Some a) t j a' ∙ rw same

    -- so each component moves as in a joint step
    pub number_moves : (o : Option A) → turn_at c (w.part (machine.owner c)).done ≡ Some o → (j : ℕ)
        → number (w.part j).first (below (suc c) (w.part j).done) ≡ cond (j == machine.owner c) (suc (number (w.part j).first (below c (w.part j).done))) (number (w.part j).first (below c (w.part j).done))
    number_moves o t j = go o t (cases_eq (machine.owner c) j)
      where
        sent_to : (a : A) → turn_at c (w.part (machine.owner c)).done ≡ Some (Some a) → (machine.owner c ≡ j → ⊥) → (r : Bool) → machine.receives (machine.owner c) a j ≡ r → number (w.part j).first (below (suc c) (w.part j).done) ≡ number (w.part j).first (below c (w.part j).done)
        sent_to a t ne true r = rw (at_receiver j a ne t r)
        sent_to a t ne false r = rw (at_other j a ne t r)

        go : (o : Option A) → turn_at c (w.part (machine.owner c)).done ≡ Some o → (machine.owner c ≡ j) ⊎ (machine.owner c ≡ j → ⊥)
            → number (w.part j).first (below (suc c) (w.part j).done) ≡ cond (j == machine.owner c) (suc (number (w.part j).first (below c (w.part j).done))) (number (w.part j).first (below c (w.part j).done))
        go o t (inl e) = subst (λ (l : ℕ). number (w.part l).first (below (suc c) (w.part l).done) ≡ cond (l == machine.owner c) (suc (number (w.part l).first (below c (w.part l).done))) (number (w.part l).first (below c (w.part l).done))) e
            (rw (eq-eqb (machine.owner c) (machine.owner c) refl, at_own o t))
        go None t (inr ne) = rw (ne_eqb j (machine.owner c) (λ (e : j ≡ machine.owner c). ne (sym e)), at_idle j ne t)
        go (Some a) t (inr ne) = rw (ne_eqb j (machine.owner c) (λ (e : j ≡ machine.owner c). ne (sym e))) (sent_to a t ne (machine.receives (machine.owner c) a j) refl)

    pub state_moves : (o : Option A) → turn_at c (w.part (machine.owner c)).done ≡ Some o → (j : ℕ)
        → replay machine j (w.part j).base (below (suc c) (w.part j).done) ≡ joint machine (machine.owner c) o j (replay machine j (w.part j).base (below c (w.part j).done))
    state_moves o t j = go o t (cases_eq (machine.owner c) j)
      where
        own : (o : Option A) → turn_at c (w.part (machine.owner c)).done ≡ Some o → replay machine (machine.owner c) (w.part (machine.owner c)).base (below (suc c) (w.part (machine.owner c)).done) ≡ joint machine (machine.owner c) o (machine.owner c) (replay machine (machine.owner c) (w.part (machine.owner c)).base (below c (w.part (machine.owner c)).done))
        own None t = rw (at_own None t)
        own (Some a) t = rw (eq-eqb (machine.owner c) (machine.owner c) refl, at_own (Some a) t)

        sent_to : (a : A) → turn_at c (w.part (machine.owner c)).done ≡ Some (Some a) → (machine.owner c ≡ j → ⊥) → (r : Bool) → machine.receives (machine.owner c) a j ≡ r
            → replay machine j (w.part j).base (below (suc c) (w.part j).done) ≡ cond (machine.receives (machine.owner c) a j) (machine.apply j a (replay machine j (w.part j).base (below c (w.part j).done))) (replay machine j (w.part j).base (below c (w.part j).done))
        sent_to a t ne true r = rw (r, at_receiver j a ne t r)
        sent_to a t ne false r = rw (r, at_other j a ne t r)

        go : (o : Option A) → turn_at c (w.part (machine.owner c)).done ≡ Some o → (machine.owner c ≡ j) ⊎ (machine.owner c ≡ j → ⊥)
            → replay machine j (w.part j).base (below (suc c) (w.part j).done) ≡ joint machine (machine.owner c) o j (replay machine j (w.part j).base (below c (w.part j).done))
        go o t (inl e) = subst (λ (l : ℕ). replay machine l (w.part l).base (below (suc c) (w.part l).done) ≡ joint machine (machine.owner c) o l (replay machine l (w.part l).base (below c (w.part l).done))) e (own o t)
        go None t (inr ne) = rw (at_idle j ne t)
        go (Some a) t (inr ne) = rw (ne_eqb j (machine.owner c) (λ (e : j ≡ machine.owner c). ne (sym e))) (sent_to a t ne (machine.receives (machine.owner c) a j) refl)

    pub joint-none : (ts : List (Turn A)) → turn_at c (w.part (machine.owner c)).done ≡ None → Reached w c ts → Reached w (suc c) ts
    joint-none ts t r =
        record {
          run = r.run;
          below_c = AllBelow-weaken c (suc c) ts (omega arith) r.below_c;
          next = λ j. rw (skip_all t j) (r.next j);
          state = λ j. rw (skip_all t j) (r.state j);
        }

    pub joint-turn : (o : Option A) (ts : List (Turn A)) → turn_at c (w.part (machine.owner c)).done ≡ Some o → Reached w c ts → Reached w (suc c) (record { key = c; outcome = o } ∷ ts)
    joint-turn o ts t r =
        let i : ℕ = machine.owner c in
        let d = own_at i w.bound (w.part i).first (w.part i).base c o (w.part i).done (is.proper i).done (none_own o t) t in
        record {
          run = (
            record {
              its_key = rw (r.next i) d.0;
              exists = d.1;
              least = λ j. let past = (can.not_ahead j).turn in rw (r.next j) (cut_reach machine law j w.bound (w.part j).first (w.part j).base c (w.part j).done (is.proper j).done (omega arith));
              its_outcome = rw (r.next i, r.state i) d.2;
            },
            r.run,
          );
          below_c = (omega arith, AllBelow-weaken c (suc c) ts (omega arith) r.below_c);
          next = λ j. rw (r.next j) (sym (number_moves o t j));
          state = λ j. rw (r.state j) (sym (state_moves o t j));
        }

    pub joint-step : (ts : List (Turn A)) → Reached w c ts → Reached w (suc c) (add_turn c (turn_at c (w.part (machine.owner c)).done) ts)
    joint-step ts r = go (turn_at c (w.part (machine.owner c)).done) refl
      where
        go : (t : Option (Option A)) → turn_at c (w.part (machine.owner c)).done ≡ t → Reached w (suc c) (add_turn c t ts)
        go None e = joint-none ts e r
        go (Some o) e = joint-turn o ts e r

  -- the consistent cut
  pub joint-all : (w : World S A) → IsWorld machine w → (b : ℕ) → CanCommit machine w b → (d : ℕ) → w.bound + d ≤ b → Reached w (w.bound + d) (gather machine w.part w.bound d w.committed)
  joint-all w is b can zero h =
      let e : w.bound + 0 ≡ w.bound = omega arith in
      let none : (j : ℕ) → below w.bound (w.part j).done ≡ [] = λ j. below_none machine law j w.bound (w.part j).first (w.part j).base (w.part j).done (is.proper j).done in
      rw e (record {
        run = is.reference.run;
        below_c = is.reference.below;
        next = λ j. rw (none j) (sym (is.next j));
        state = λ j. rw (none j) (sym (is.grounded j));
      })
  joint-all w is b can (suc d) h =
      let e : w.bound + suc d ≡ suc (w.bound + d) = omega arith in
      rw e (joint-step w is b can (w.bound + d) (omega arith) (omega arith) (gather machine w.part w.bound d w.committed) (joint-all w is b can d (omega arith)))
