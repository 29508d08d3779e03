-- The receivers of an action, where there are so many components.
use Rattle.std.proofs.Common.{◌≡◌, ℕ, zero, suc, ◌<◌, ◌≤◌, ◌⊎◌, inl, inr, Bool, true, false, cond, ◌∷◌, refl, ap, sym, ◌∙◌, arith}
use Rattle.std.proofs.lemmas.Bool.{eq-eqb, ne_eqb, cases_eq, cases_lt}
use Rattle.virtual_time.specs.Machine.{HasCount, Machine}
use Rattle.virtual_time.specs.Inverses.{AreDistinct, AreReceivers, is_in, receivers_of}

module _ {S A : Type 0} (machine : Machine S A) (i : ℕ) (a : A) where
  is_past : (j n : ℕ) → n ≤ j → is_in j (receivers_of machine i a n) ≡ false
  is_past j zero l = refl
  is_past j (suc n) l = go (machine.receives i a n) (is_past j n (omega arith))
    where
      go : (b : Bool) → is_in j (receivers_of machine i a n) ≡ false → is_in j (cond b (n ∷ receivers_of machine i a n) (receivers_of machine i a n)) ≡ false
      go true h = rw (ne_eqb j n (λ (e : j ≡ n). omega arith)) h
      go false h = h

  is_below : (j n : ℕ) → j < n → is_in j (receivers_of machine i a n) ≡ machine.receives i a j
  is_below j zero l = absurd (omega arith)
  is_below j (suc n) l = go (cases_eq j n) (machine.receives i a n) refl (λ (m : j < n). is_below j n m)
    where
      here : j ≡ n → (b : Bool) → machine.receives i a n ≡ b → is_in j (cond b (n ∷ receivers_of machine i a n) (receivers_of machine i a n)) ≡ b
      here e true h = rw (eq-eqb j n e)
      here e false h = is_past j n (omega arith)

      go : (j ≡ n) ⊎ (j ≡ n → ⊥) → (b : Bool) → machine.receives i a n ≡ b → (j < n → is_in j (receivers_of machine i a n) ≡ machine.receives i a j)
          → is_in j (cond b (n ∷ receivers_of machine i a n) (receivers_of machine i a n)) ≡ machine.receives i a j
      go (inl e) b h ih = here e b h ∙ sym h ∙ ap (λ (l : ℕ). machine.receives i a l) (sym e)
      go (inr ne) true h ih = rw (ne_eqb j n ne) (ih (omega arith))
      go (inr ne) false h ih = ih (omega arith)

  distinct : (n : ℕ) → AreDistinct (receivers_of machine i a n)
  distinct zero = tt
  distinct (suc n) = go (machine.receives i a n) (distinct n)
    where
      go : (b : Bool) → AreDistinct (receivers_of machine i a n) → AreDistinct (cond b (n ∷ receivers_of machine i a n) (receivers_of machine i a n))
      go true h = (is_past n n (omega arith), h)
      go false h = h

  pub received : (count : ℕ) → HasCount machine count → AreReceivers machine i a (receivers_of machine i a count)
  received count counted = record { distinct = distinct count; all = λ j. go j (cases_lt j count) }
    where
      go : (j : ℕ) → (j < count) ⊎ (count ≤ j) → is_in j (receivers_of machine i a count) ≡ machine.receives i a j
      go j (inl l) = is_below j count l
      go j (inr l) = is_past j count l ∙ sym (counted.deaf i a j l)
