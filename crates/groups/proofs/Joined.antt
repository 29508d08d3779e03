-- Bags that are posted to one another.
use Rattle.std.proofs.Common.{◌≡◌, ℕ, Bool, true, false, true≢false, cond, None, Some, List, [], ◌∷◌, refl, ap, sym, ◌∙◌}
use Rattle.terms.specs.Datum.{Datum}
use Rattle.terms.specs.Named.{Named}
use Rattle.virtual_time.specs.Machine.{Lawful, Machine}
use Rattle.virtual_time.specs.Bags.{comes_first, insert}
use Rattle.virtual_time.specs.Entries.{Entry, Input, Item, Own}
use Rattle.virtual_time.specs.Records.{sent_by, unsent}
use Rattle.virtual_time.proofs.Lists.{first_chain, first_total}
use Rattle.virtual_time.proofs.Delivered.{first_one}
use Rattle.groups.specs.Open.{joined}

module _ (m : Machine (List Datum) Named) (law : Lawful m) where
  -- two are inserted in any order
  two_on : (x y : Item Named) (zs : List (Item Named)) → cond (comes_first m x y) (x ∷ y ∷ zs) (y ∷ x ∷ zs) ≡ cond (comes_first m y x) (y ∷ x ∷ zs) (x ∷ y ∷ zs)
  two_on x y zs = go (comes_first m x y) (comes_first m y x) refl refl
    where
      go : (b c : Bool) → comes_first m x y ≡ b → comes_first m y x ≡ c → cond b (x ∷ y ∷ zs) (y ∷ x ∷ zs) ≡ cond c (y ∷ x ∷ zs) (x ∷ y ∷ zs)
      go true true p q = let same = first_one m law x y p q in ap (λ a. a ∷ y ∷ zs) same ∙ ap (λ a. y ∷ a ∷ zs) (sym same)
      go true false p q = refl
      go false true p q = refl
      go false false p q = absurd (true≢false (sym (first_total m law x y p) ∙ q))

  inserted_twice : (x y : Item Named) (zs : List (Item Named)) → insert m x (insert m y zs) ≡ insert m y (insert m x zs)
  inserted_twice x y [] = two_on x y []
  inserted_twice x y (z ∷ zs) = go (inserted_twice x y zs) (comes_first m x z) (comes_first m y z) refl refl
    where
      go : insert m x (insert m y zs) ≡ insert m y (insert m x zs) → (b c : Bool) → comes_first m x z ≡ b → comes_first m y z ≡ c → insert m x (cond c (y ∷ z ∷ zs) (z ∷ insert m y zs)) ≡ insert m y (cond b (x ∷ z ∷ zs) (z ∷ insert m x zs))
      go rest true true p q = rw (p, q) (two_on x y (z ∷ zs))
      go rest true false p q =
          let apart : comes_first m y x ≡ false = not_first (comes_first m y x) refl in
          rw (p, apart, q) refl
        where
          not_first : (b : Bool) → comes_first m y x ≡ b → comes_first m y x ≡ false
          not_first true e = absurd (true≢false (sym (first_chain m law y x z e p) ∙ q))
          not_first false e = e
      go rest false true p q =
          let apart : comes_first m x y ≡ false = not_first (comes_first m x y) refl in
          rw (p, apart, q) refl
        where
          not_first : (b : Bool) → comes_first m x y ≡ b → comes_first m x y ≡ false
          not_first true e = absurd (true≢false (sym (first_chain m law x y z e q) ∙ p))
          not_first false e = e
      go rest false false p q = rw (p, q) (ap (λ ws. z ∷ ws) rest)

  -- one more is posted before or after the others
  one_after : (x : Item Named) (xs ys : List (Item Named)) → joined m xs (insert m x ys) ≡ insert m x (joined m xs ys)
  one_after x [] ys = refl
  one_after x (y ∷ xs) ys = ap (joined m xs) (inserted_twice y x ys) ∙ one_after x xs (insert m y ys)

  pub one_joined : (x : Item Named) (xs ys : List (Item Named)) → joined m (insert m x xs) ys ≡ insert m x (joined m xs ys)
  one_joined x [] ys = refl
  one_joined x (y ∷ xs) ys = go (one_joined x xs (insert m y ys)) (comes_first m x y)
    where
      go : joined m (insert m x xs) (insert m y ys) ≡ insert m x (joined m xs (insert m y ys)) → (b : Bool) → joined m (cond b (x ∷ y ∷ xs) (y ∷ insert m x xs)) ys ≡ insert m x (joined m (y ∷ xs) ys)
      go rest true = one_after x (y ∷ xs) ys
      go rest false = rest

  -- so what an entry sends, and what comes of entries taken back
  pub sent_joined : (i : ℕ) (e : Entry Named) (j : ℕ) (xs ys : List (Item Named)) → sent_by m i e j (joined m xs ys) ≡ joined m (sent_by m i e j xs) ys
  sent_joined i (Own k None) j xs ys = refl
  sent_joined i (Own k (Some a)) j xs ys = go (m.receives i a j)
    where
      go : (b : Bool) → cond b (insert m (record { key = k; action = a }) (joined m xs ys)) (joined m xs ys) ≡ joined m (cond b (insert m (record { key = k; action = a }) xs) xs) ys
      go true = sym (one_joined (record { key = k; action = a }) xs ys)
      go false = refl
  sent_joined i (Input x) j xs ys = refl

  pub unsent_joined : (i : ℕ) (es : List (Entry Named)) (j : ℕ) (xs ys : List (Item Named)) → unsent m i es j (joined m xs ys) ≡ joined m (unsent m i es j xs) ys
  unsent_joined i [] j xs ys = refl
  unsent_joined i (e ∷ es) j xs ys = ap (unsent m i es j) (sent_joined i e j xs ys) ∙ unsent_joined i es j (sent_by m i e j xs) ys

  -- nobody sends to itself
  pub not_to_self : (i : ℕ) (e : Entry Named) (xs : List (Item Named)) → sent_by m i e i xs ≡ xs
  not_to_self i (Own k None) xs = refl
  not_to_self i (Own k (Some a)) xs = rw (law.others i a) refl
  not_to_self i (Input x) xs = refl

  pub none_to_self : (i : ℕ) (es : List (Entry Named)) (xs : List (Item Named)) → unsent m i es i xs ≡ xs
  none_to_self i [] xs = refl
  none_to_self i (e ∷ es) xs = none_to_self i es (sent_by m i e i xs) ∙ not_to_self i e xs
