-- Several entries of one record, done and taken back.
use Rattle.std.proofs.Common.{◌≡◌, ℕ, ◌+◌, Bool, true, false, cond, Option, None, Some, List, [], ◌∷◌, ◌++◌, length, refl, ap, sym, subst, ◌∙◌, arith, ltb}
use Rattle.virtual_time.specs.Machine.{Machine, Lawful}
use Rattle.virtual_time.specs.Entries.{Entry, Own, Input, Item, number}
use Rattle.virtual_time.specs.Bags.{IsSorted, times, insert}
use Rattle.virtual_time.specs.Records.{Record, own_next, least_of, next_of, without_first, after_entry, sent_by, roll_back_of, roll_back_times, unsent, sent_all, Processes}
use Rattle.virtual_time.proofs.Counts.{times-insert}
use Rattle.virtual_time.proofs.Lists.{insert_front}

module _ {S A : Type 0} (machine : Machine S A) where
  own_not : (i : ℕ) (x : Item A) (r : Record S A) → own_next machine i r ≡ Some (Input x) → ⊥
  own_not i x r = go (ltb (machine.key i (number r.first r.done)) machine.top)
    where
      own : Entry A
      own = Own (machine.key i (number r.first r.done)) (machine.outcome i (number r.first r.done) (Rattle.virtual_time.specs.Entries.replay machine i r.base r.done))

      go : (b : Bool) → cond b (Some own) None ≡ Some (Input x) → ⊥
      go true h = cc
      go false h = let f : ◌≡◌ {A = Option (Entry A)} None (Some (Input x)) = h in cc

  pub first_is : (i : ℕ) (x : Item A) (r : Record S A) (xs : List (Item A)) → least_of machine i r xs ≡ Some (Input x) → xs ≡ x ∷ without_first xs
  first_is i x r [] h = absurd (own_not i x r h)
  first_is i x r (y ∷ ys) h = go (ltb y.key (machine.key i (number r.first r.done))) h
    where
      go : (b : Bool) → cond b (Some (Input y)) (own_next machine i r) ≡ Some (Input x) → y ∷ ys ≡ x ∷ ys
      go true f = let g : Input y ≡ Input x = cc in let e : y ≡ x = cc in ap (λ (z : Item A). z ∷ ys) e
      go false f = absurd (own_not i x r f)

  -- the entry that was done is taken back
  one_back : (i : ℕ) (e : Entry A) (r : Record S A) → IsSorted machine r.pending → next_of machine i r ≡ Some e → roll_back_of machine (after_entry e r) ≡ r
  one_back i (Own k o) r so h = refl
  one_back i (Input x) r so h =
      let p : r.pending ≡ x ∷ without_first r.pending = first_is i x r r.pending h in
      let q : IsSorted machine (x ∷ without_first r.pending) = subst (λ (xs : List (Item A)). IsSorted machine xs) p so in
      let back : insert machine x (without_first r.pending) ≡ r.pending = insert_front machine x (without_first r.pending) q.0 ∙ sym p in
      λ v. record { base = r.base; first = r.first; done = r.done; pending = back v; owed = r.owed }

  tail_sorted : (xs : List (Item A)) → IsSorted machine xs → IsSorted machine (without_first xs)
  tail_sorted [] so = tt
  tail_sorted (x ∷ xs) so = so.1

  after_sorted : (e : Entry A) (r : Record S A) → IsSorted machine r.pending → IsSorted machine (after_entry e r).pending
  after_sorted (Own k o) r so = so
  after_sorted (Input x) r so = tail_sorted r.pending so

  all_sorted : (i : ℕ) (es : List (Entry A)) (r r' : Record S A) → IsSorted machine r.pending → Processes machine i r es r' → IsSorted machine r'.pending
  all_sorted i [] r r' so h = subst (λ (q : Record S A). IsSorted machine q.pending) (sym h) so
  all_sorted i (e ∷ es) r r' so h = subst (λ (q : Record S A). IsSorted machine q.pending) (sym h.3) (after_sorted e h.0 (all_sorted i es r h.0 so h.1))

  pub all_back : (i : ℕ) (es : List (Entry A)) (r r' : Record S A) → IsSorted machine r.pending → Processes machine i r es r' → roll_back_times machine (length es) r' ≡ r
  all_back i [] r r' so h = h
  all_back i (e ∷ es) r r' so h =
      ap (roll_back_times machine (length es)) (ap (roll_back_of machine) h.3 ∙ one_back i e h.0 (all_sorted i es r h.0 so h.1) h.2)
      ∙ all_back i es r h.0 so h.1

  after_done : (e : Entry A) (r : Record S A) → (after_entry e r).done ≡ e ∷ r.done
  after_done (Own k o) r = refl
  after_done (Input x) r = refl

  pub all_done : (i : ℕ) (es : List (Entry A)) (r r' : Record S A) → Processes machine i r es r' → r'.done ≡ es ++ r.done
  all_done i [] r r' h = ap (λ (q : Record S A). q.done) h
  all_done i (e ∷ es) r r' h = ap (λ (q : Record S A). q.done) h.3 ∙ after_done e h.0 ∙ ap (λ (fs : List (Entry A)). e ∷ fs) (all_done i es r h.0 h.1)

module _ {S A : Type 0} (machine : Machine S A) (law : Lawful machine) where
  pub sent_shift : (i : ℕ) (e : Entry A) (j : ℕ) (xs ys : List (Item A)) (k : ℕ) (a : A)
      → times machine (sent_by machine i e j xs) k a + times machine ys k a ≡ times machine (sent_by machine i e j ys) k a + times machine xs k a
  sent_shift i (Own k' None) j xs ys k a = omega arith
  sent_shift i (Own k' (Some b)) j xs ys k a = go (machine.receives i b j)
    where
      x : Item A
      x = record { key = k'; action = b }

      go : (t : Bool) → times machine (cond t (insert machine x xs) xs) k a + times machine ys k a ≡ times machine (cond t (insert machine x ys) ys) k a + times machine xs k a
      go true = let p = times-insert machine law x xs k a in let q = times-insert machine law x ys k a in omega arith
      go false = omega arith
  sent_shift i (Input x) j xs ys k a = omega arith

  pub signs : (i : ℕ) (es : List (Entry A)) (j : ℕ) (xs ys : List (Item A)) (k : ℕ) (a : A)
      → times machine (sent_all machine i es j xs) k a + times machine ys k a ≡ times machine (unsent machine i es j ys) k a + times machine xs k a
  signs i [] j xs ys k a = omega arith
  signs i (e ∷ es) j xs ys k a =
      let h = signs i es j xs (sent_by machine i e j ys) k a in
      let s = sent_shift i e j (sent_all machine i es j xs) ys k a in
      omega arith
