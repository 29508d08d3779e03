-- The steps of a lease are the same steps of the whole world.
use Rattle.std.proofs.Common.{◌≡◌, ℕ, ◌+◌, ◌==◌, ◌⊎◌, inl, inr, Bool, cond, List, [], refl, ap, sym, subst, ◌∙◌, arith}
use Rattle.std.proofs.lemmas.Bool.{eq-eqb, ne_eqb, cases_eq}
use Rattle.virtual_time.specs.Machine.{Lawful, Machine}
use Rattle.virtual_time.specs.Entries.{Item, below, from, number, replay}
use Rattle.virtual_time.specs.Worlds.{World}
use Rattle.virtual_time.specs.Bags.{times}
use Rattle.virtual_time.specs.Exchange.Stubs.{Exchange}
use Rattle.virtual_time.specs.Exchange.Leases.{IsLease, Lease, alone, lease_of}
use Rattle.virtual_time.specs.Exchange.Wholes.{IsWholeWorld, put_lease}
use Rattle.virtual_time.proofs.Exchange.Parts.{Follows, Private}

module _ {S A : Type 0} (machine : Machine S A) (law : Lawful machine) (i : ℕ) (e : Exchange A) (ls : ℕ → Lease S A) (lease : IsLease machine i (ls i)) (w : World S A) (whole : IsWholeWorld machine e ls w) where
  -- what is in flight and not of this lease
  abbrev pub rest_plus : ℕ → ℕ → A → ℕ
  rest_plus j k a = cond (j == i) (times machine (e.stub j).plus k a + times machine ((ls (machine.owner k)).out_plus j) k a) (times machine (ls j).part.plus k a + times machine (e.stub j).plus k a + cond (machine.owner k == i) 0 (times machine ((ls (machine.owner k)).out_plus j) k a))

  abbrev pub rest_minus : ℕ → ℕ → A → ℕ
  rest_minus j k a = cond (j == i) (times machine (e.stub j).minus k a + times machine ((ls (machine.owner k)).out_minus j) k a) (times machine (ls j).part.minus k a + times machine (e.stub j).minus k a + cond (machine.owner k == i) 0 (times machine ((ls (machine.owner k)).out_minus j) k a))

  pub follow_start : Follows machine e.bound i rest_plus rest_minus (alone machine i (ls i)) w
  follow_start =
      record {
        part = rw (eq-eqb i i refl) (record { base = whole.base i; first = whole.first i; done = whole.done i; pending = whole.pending i; owed = whole.owed i });
        plus = λ j k a. plus j k a (cases_eq j i) (cases_eq (machine.owner k) i);
        minus = λ j k a. minus j k a (cases_eq j i) (cases_eq (machine.owner k) i);
      }
    where
      plus : (j k : ℕ) (a : A) → (j ≡ i) ⊎ (j ≡ i → ⊥) → (machine.owner k ≡ i) ⊎ (machine.owner k ≡ i → ⊥) → times machine (w.part j).plus k a ≡ times machine ((alone machine i (ls i)).part j).plus k a + rest_plus j k a
      plus j k a (inl h) o = let x = whole.plus j k a in let y : times machine (ls j).part.plus k a ≡ times machine (ls i).part.plus k a = ap (λ (n : ℕ). times machine (ls n).part.plus k a) h in rw (eq-eqb j i h) (omega arith)
      plus j k a (inr ne) (inl own) = let x = whole.plus j k a in let y : times machine ((ls (machine.owner k)).out_plus j) k a ≡ times machine ((ls i).out_plus j) k a = ap (λ (n : ℕ). times machine ((ls n).out_plus j) k a) own in rw (ne_eqb j i ne, eq-eqb (machine.owner k) i own) (omega arith)
      plus j k a (inr ne) (inr other) = let x = whole.plus j k a in let y = lease.mine_plus j k a other in rw (ne_eqb j i ne, ne_eqb (machine.owner k) i other) (omega arith)

      minus : (j k : ℕ) (a : A) → (j ≡ i) ⊎ (j ≡ i → ⊥) → (machine.owner k ≡ i) ⊎ (machine.owner k ≡ i → ⊥) → times machine (w.part j).minus k a ≡ times machine ((alone machine i (ls i)).part j).minus k a + rest_minus j k a
      minus j k a (inl h) o = let x = whole.minus j k a in let y : times machine (ls j).part.minus k a ≡ times machine (ls i).part.minus k a = ap (λ (n : ℕ). times machine (ls n).part.minus k a) h in rw (eq-eqb j i h) (omega arith)
      minus j k a (inr ne) (inl own) = let x = whole.minus j k a in let y : times machine ((ls (machine.owner k)).out_minus j) k a ≡ times machine ((ls i).out_minus j) k a = ap (λ (n : ℕ). times machine ((ls n).out_minus j) k a) own in rw (ne_eqb j i ne, eq-eqb (machine.owner k) i own) (omega arith)
      minus j k a (inr ne) (inr other) = let x = whole.minus j k a in let y = lease.mine_minus j k a other in rw (ne_eqb j i ne, ne_eqb (machine.owner k) i other) (omega arith)

  -- what they led to is the whole with the lease as it is then
  module _ (u v : World S A) (mine : Private machine i (alone machine i (ls i)) u) (theirs : Private machine i w v) (f : Follows machine e.bound i rest_plus rest_minus u v) (new : IsLease machine i (lease_of i (ls i).floor u)) where
    here : (P : ℕ → Lease S A → Type 0) → P i (lease_of i (ls i).floor u) → ((j : ℕ) → (j ≡ i → ⊥) → P j (ls j)) → (j : ℕ) → P j (put_lease i (lease_of i (ls i).floor u) ls j)
    here P h o j = pick (cases_eq j i)
      where
        pick : (j ≡ i) ⊎ (j ≡ i → ⊥) → P j (put_lease i (lease_of i (ls i).floor u) ls j)
        pick (inl q) = subst (λ (n : ℕ). P n (put_lease i (lease_of i (ls i).floor u) ls n)) (sym q) (rw (eq-eqb i i refl) h)
        pick (inr ne) = rw (ne_eqb j i ne) (o j ne)

    pub follow_whole : IsWholeWorld machine e (put_lease i (lease_of i (ls i).floor u) ls) v
    follow_whole =
        record {
          bound = theirs.bound ∙ whole.bound;
          committed = theirs.committed ∙ whole.committed;
          base = here (λ j l. (v.part j).base ≡ replay machine j l.part.base (below e.bound l.part.done)) f.part.base (λ j ne. theirs.base j ne ∙ whole.base j);
          first = here (λ j l. (v.part j).first ≡ number l.part.first (below e.bound l.part.done)) f.part.first (λ j ne. theirs.first j ne ∙ whole.first j);
          done = here (λ j l. (v.part j).done ≡ from e.bound l.part.done) f.part.done (λ j ne. theirs.done j ne ∙ whole.done j);
          pending = here (λ j l. (v.part j).pending ≡ l.part.pending) f.part.pending (λ j ne. theirs.pending j ne ∙ whole.pending j);
          owed = here (λ j l. (v.part j).owed ≡ l.part.owed) f.part.owed (λ j ne. theirs.owed j ne ∙ whole.owed j);
          plus = λ j k a. plus j k a (cases_eq j i) (cases_eq (machine.owner k) i);
          minus = λ j k a. minus j k a (cases_eq j i) (cases_eq (machine.owner k) i);
        }
      where
        self_plus : (k : ℕ) (a : A) → machine.owner k ≡ i → times machine ((ls (machine.owner k)).out_plus i) k a ≡ 0
        self_plus k a own = ap (λ (n : ℕ). times machine ((ls n).out_plus i) k a) own ∙ ap (λ (xs : List (Item A)). times machine xs k a) lease.self_plus

        self_minus : (k : ℕ) (a : A) → machine.owner k ≡ i → times machine ((ls (machine.owner k)).out_minus i) k a ≡ 0
        self_minus k a own = ap (λ (n : ℕ). times machine ((ls n).out_minus i) k a) own ∙ ap (λ (xs : List (Item A)). times machine xs k a) lease.self_minus

        plus : (j k : ℕ) (a : A) → (j ≡ i) ⊎ (j ≡ i → ⊥) → (machine.owner k ≡ i) ⊎ (machine.owner k ≡ i → ⊥)
            → times machine (v.part j).plus k a ≡ times machine (put_lease i (lease_of i (ls i).floor u) ls j).part.plus k a + times machine (e.stub j).plus k a + times machine ((put_lease i (lease_of i (ls i).floor u) ls (machine.owner k)).out_plus j) k a
        plus j k a (inl h) (inl own) =
            subst (λ (n : ℕ). times machine (v.part n).plus k a ≡ times machine (put_lease i (lease_of i (ls i).floor u) ls n).part.plus k a + times machine (e.stub n).plus k a + times machine ((put_lease i (lease_of i (ls i).floor u) ls (machine.owner k)).out_plus n) k a) (sym h)
            (let x : times machine (v.part i).plus k a ≡ times machine (u.part i).plus k a + (times machine (e.stub i).plus k a + times machine ((ls (machine.owner k)).out_plus i) k a) = f.plus i k a ∙ rw (eq-eqb i i refl) refl in let z = self_plus k a own in rw (eq-eqb i i refl, eq-eqb (machine.owner k) i own) (rw (eq-eqb i i refl) (omega arith)))
        plus j k a (inl h) (inr other) =
            subst (λ (n : ℕ). times machine (v.part n).plus k a ≡ times machine (put_lease i (lease_of i (ls i).floor u) ls n).part.plus k a + times machine (e.stub n).plus k a + times machine ((put_lease i (lease_of i (ls i).floor u) ls (machine.owner k)).out_plus n) k a) (sym h)
            (let x : times machine (v.part i).plus k a ≡ times machine (u.part i).plus k a + (times machine (e.stub i).plus k a + times machine ((ls (machine.owner k)).out_plus i) k a) = f.plus i k a ∙ rw (eq-eqb i i refl) refl in rw (eq-eqb i i refl, ne_eqb (machine.owner k) i other) (omega arith))
        plus j k a (inr ne) (inl own) =
            let x : times machine (v.part j).plus k a ≡ times machine (u.part j).plus k a + (times machine (ls j).part.plus k a + times machine (e.stub j).plus k a + 0) = f.plus j k a ∙ rw (ne_eqb j i ne, eq-eqb (machine.owner k) i own) refl in
            rw (ne_eqb j i ne, eq-eqb (machine.owner k) i own) (rw (ne_eqb j i ne) (omega arith))
        plus j k a (inr ne) (inr other) =
            let x : times machine (v.part j).plus k a ≡ times machine (u.part j).plus k a + (times machine (ls j).part.plus k a + times machine (e.stub j).plus k a + times machine ((ls (machine.owner k)).out_plus j) k a) = f.plus j k a ∙ rw (ne_eqb j i ne, ne_eqb (machine.owner k) i other) refl in
            let y : times machine (u.part j).plus k a ≡ 0 = ap (λ (b : Bool). times machine (cond b [] (u.part j).plus) k a) (sym (ne_eqb j i ne)) ∙ new.mine_plus j k a other in
            rw (ne_eqb j i ne, ne_eqb (machine.owner k) i other) (omega arith)

        minus : (j k : ℕ) (a : A) → (j ≡ i) ⊎ (j ≡ i → ⊥) → (machine.owner k ≡ i) ⊎ (machine.owner k ≡ i → ⊥)
            → times machine (v.part j).minus k a ≡ times machine (put_lease i (lease_of i (ls i).floor u) ls j).part.minus k a + times machine (e.stub j).minus k a + times machine ((put_lease i (lease_of i (ls i).floor u) ls (machine.owner k)).out_minus j) k a
        minus j k a (inl h) (inl own) =
            subst (λ (n : ℕ). times machine (v.part n).minus k a ≡ times machine (put_lease i (lease_of i (ls i).floor u) ls n).part.minus k a + times machine (e.stub n).minus k a + times machine ((put_lease i (lease_of i (ls i).floor u) ls (machine.owner k)).out_minus n) k a) (sym h)
            (let x : times machine (v.part i).minus k a ≡ times machine (u.part i).minus k a + (times machine (e.stub i).minus k a + times machine ((ls (machine.owner k)).out_minus i) k a) = f.minus i k a ∙ rw (eq-eqb i i refl) refl in let z = self_minus k a own in rw (eq-eqb i i refl, eq-eqb (machine.owner k) i own) (rw (eq-eqb i i refl) (omega arith)))
        minus j k a (inl h) (inr other) =
            subst (λ (n : ℕ). times machine (v.part n).minus k a ≡ times machine (put_lease i (lease_of i (ls i).floor u) ls n).part.minus k a + times machine (e.stub n).minus k a + times machine ((put_lease i (lease_of i (ls i).floor u) ls (machine.owner k)).out_minus n) k a) (sym h)
            (let x : times machine (v.part i).minus k a ≡ times machine (u.part i).minus k a + (times machine (e.stub i).minus k a + times machine ((ls (machine.owner k)).out_minus i) k a) = f.minus i k a ∙ rw (eq-eqb i i refl) refl in rw (eq-eqb i i refl, ne_eqb (machine.owner k) i other) (omega arith))
        minus j k a (inr ne) (inl own) =
            let x : times machine (v.part j).minus k a ≡ times machine (u.part j).minus k a + (times machine (ls j).part.minus k a + times machine (e.stub j).minus k a + 0) = f.minus j k a ∙ rw (ne_eqb j i ne, eq-eqb (machine.owner k) i own) refl in
            rw (ne_eqb j i ne, eq-eqb (machine.owner k) i own) (rw (ne_eqb j i ne) (omega arith))
        minus j k a (inr ne) (inr other) =
            let x : times machine (v.part j).minus k a ≡ times machine (u.part j).minus k a + (times machine (ls j).part.minus k a + times machine (e.stub j).minus k a + times machine ((ls (machine.owner k)).out_minus j) k a) = f.minus j k a ∙ rw (ne_eqb j i ne, ne_eqb (machine.owner k) i other) refl in
            let y : times machine (u.part j).minus k a ≡ 0 = ap (λ (b : Bool). times machine (cond b [] (u.part j).minus) k a) (sym (ne_eqb j i ne)) ∙ new.mine_minus j k a other in
            rw (ne_eqb j i ne, ne_eqb (machine.owner k) i other) (omega arith)
