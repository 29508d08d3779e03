-- Counts of items: what a step adds to them and takes from them.
use Rattle.std.proofs.Common.{◌≡◌, ℕ, ◌+◌, ◌<◌, ◌==◌, ◌⊎◌, inl, inr, Bool, true, false, cond, Option, None, Some, List, [], ◌∷◌, refl, ap, sym, arith}
use Rattle.std.proofs.lemmas.Bool.{eqb-true, eq-eqb, and_parts, and_from}
use Rattle.virtual_time.specs.Machine.{Lawful, Machine}
use Rattle.virtual_time.specs.Entries.{Entry, Item, Own}
use Rattle.virtual_time.specs.Bags.{comes_first, hit, insert, owns, remove, same_item, sends, times}
use Rattle.virtual_time.specs.Records.{sent}

module _ {S A : Type 0} (machine : Machine S A) (law : Lawful machine) where
  pub same_item_is : (x y : Item A) → same_item machine x y ≡ true → x ≡ y
  same_item_is x y h =
      let p = and_parts (x.key == y.key) (machine.same x.action y.action) h in
      let k : x.key ≡ y.key = eqb-true x.key y.key p.0 in
      let a : x.action ≡ y.action = law.same_is x.action y.action p.1 in
      λ i. record { key = k i; action = a i }

  pub same_item_self : (x : Item A) → same_item machine x x ≡ true
  same_item_self x = and_from (x.key == x.key) (machine.same x.action x.action) (eq-eqb x.key x.key refl) (law.same_refl x.action)

  pub hit_self : (x : Item A) → hit machine x x.key x.action ≡ 1
  unfolding hit
  hit_self x = rw (same_item_self x)

  pub hit_not : (x y : Item A) → same_item machine x y ≡ false → hit machine x y.key y.action ≡ 0
  unfolding hit
  hit_not x y h = rw h

  pub hit_cases : (x y : Item A) → (hit machine x y.key y.action ≡ 0) ⊎ (x ≡ y)
  hit_cases x y = go (same_item machine x y) refl
    where
      go : (b : Bool) → same_item machine x y ≡ b → (hit machine x y.key y.action ≡ 0) ⊎ (x ≡ y)
      go true h = inr (same_item_is x y h)
      go false h = inl (hit_not x y h)

  pub hit_key : (x : Item A) (k : ℕ) (a : A) → (x.key ≡ k → ⊥) → hit machine x k a ≡ 0
  hit_key x k a ne = go (hit_cases x (record { key = k; action = a }))
    where
      go : (hit machine x k a ≡ 0) ⊎ (x ≡ record { key = k; action = a }) → hit machine x k a ≡ 0
      go (inl e) = e
      go (inr e) = absurd (ne (ap (λ (y : Item A). y.key) e))

  pub times-insert : (x : Item A) (xs : List (Item A)) (k : ℕ) (a : A) → times machine (insert machine x xs) k a ≡ hit machine x k a + times machine xs k a
  times-insert x [] k a = refl
  times-insert x (y ∷ ys) k a = go (comes_first machine x y) refl (times-insert x ys k a)
    where
      go : (b : Bool) → comes_first machine x y ≡ b → times machine (insert machine x ys) k a ≡ hit machine x k a + times machine ys k a
          → times machine (insert machine x (y ∷ ys)) k a ≡ hit machine x k a + (hit machine y k a + times machine ys k a)
      go true h ih = rw h
      go false h ih = rw h (omega arith)

  pub times-remove : (x : Item A) (xs : List (Item A)) (k : ℕ) (a : A) → 0 < times machine xs x.key x.action
      → hit machine x k a + times machine (remove machine x xs) k a ≡ times machine xs k a
  times-remove x [] k a h = absurd (omega arith)
  times-remove x (y ∷ ys) k a h = go (same_item machine y x) refl (times-remove x ys k a)
    where
      go : (b : Bool) → same_item machine y x ≡ b
          → (0 < times machine ys x.key x.action → hit machine x k a + times machine (remove machine x ys) k a ≡ times machine ys k a)
          → hit machine x k a + times machine (remove machine x (y ∷ ys)) k a ≡ hit machine y k a + times machine ys k a
      go true e ih = rw e (ap (λ (z : Item A). hit machine z k a + times machine ys k a) (sym (same_item_is y x e)))
      go false e ih = let n : hit machine y x.key x.action ≡ 0 = hit_not y x e in let t : hit machine x k a + times machine (remove machine x ys) k a ≡ times machine ys k a = ih (omega arith) in rw e (omega arith)

  pub sent_other : (i k : ℕ) (o : Option A) (j : ℕ) (xs : List (Item A)) (k' : ℕ) (a' : A) → (k ≡ k' → ⊥)
      → times machine (sent machine i k o j xs) k' a' ≡ times machine xs k' a'
  sent_other i k None j xs k' a' ne = refl
  sent_other i k (Some a) j xs k' a' ne = go (machine.receives i a j)
    where
      go : (b : Bool) → times machine (cond b (insert machine (record { key = k; action = a }) xs) xs) k' a' ≡ times machine xs k' a'
      go true = let z = hit_key (record { key = k; action = a }) k' a' ne in let t = times-insert (record { key = k; action = a }) xs k' a' in omega arith
      go false = refl

  -- of a turn that is done what it sends is counted among the sends, or is in flight
  pub sent_here : (i k : ℕ) (o : Option A) (j : ℕ) (xs : List (Item A)) (es : List (Entry A)) (k' : ℕ) (a' : A) → machine.owner k ≡ i
      → times machine (sent machine i k o j xs) k' a' + sends machine es k' a' j ≡ sends machine (Own k o ∷ es) k' a' j + times machine xs k' a'
  unfolding sends
  sent_here i k None j xs es k' a' own = go (machine.receives (machine.owner k') a' j) (owns machine es k' a') (times machine xs k' a')
    where
      go : (b : Bool) (n t : ℕ) → t + cond b n 0 ≡ cond b (0 + n) 0 + t
      go true n t = omega arith
      go false n t = omega arith
  sent_here i k (Some a) j xs es k' a' own =
      go (machine.receives i a j) (machine.receives (machine.owner k') a' j) (owns machine es k' a') (alike (hit_cases (record { key = k; action = a }) (record { key = k'; action = a' })))
    where
      alike : (hit machine (record { key = k; action = a }) k' a' ≡ 0) ⊎ (◌≡◌ {A = Item A} (record { key = k; action = a }) (record { key = k'; action = a' }))
          → (hit machine (record { key = k; action = a }) k' a' ≡ 0) ⊎ (machine.receives i a j ≡ machine.receives (machine.owner k') a' j)
      alike (inl e) = inl e
      alike (inr e) = inr (rw (← own) (ap (λ (y : Item A). machine.receives (machine.owner y.key) y.action j) e))

      t : times machine (insert machine (record { key = k; action = a }) xs) k' a' ≡ hit machine (record { key = k; action = a }) k' a' + times machine xs k' a'
      t = times-insert (record { key = k; action = a }) xs k' a'

      go : (r r' : Bool) (n : ℕ) → (hit machine (record { key = k; action = a }) k' a' ≡ 0) ⊎ (r ≡ r')
          → times machine (cond r (insert machine (record { key = k; action = a }) xs) xs) k' a' + cond r' n 0 ≡ cond r' (hit machine (record { key = k; action = a }) k' a' + n) 0 + times machine xs k' a'
      go true true n e = omega (arith, t)
      go true false n (inl e) = omega (arith, t)
      go true false n (inr e) = cc
      go false true n (inl e) = omega arith
      go false true n (inr e) = cc
      go false false n e = omega arith
