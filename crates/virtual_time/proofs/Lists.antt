-- Lists of items in order, and the done entries of one component.
use Rattle.std.proofs.Common.{◌≡◌, ℕ, ◌<◌, ◌≤◌, ◌==◌, ◌&&◌, ◌⊎◌, inl, inr, Bool, true, false, cond, Option, None, Some, List, [], ◌∷◌, refl, sym, subst, arith, ltb}
use Rattle.std.proofs.lemmas.Bool.{ltb-true, ltb-false, lt-ltb, eqb-true, eqb-false, eq-eqb, ne_eqb, and_parts, and_cases, and_from, or_left, or_right, or_cases, or_parts, cases_eq}
use Rattle.virtual_time.specs.Machine.{Lawful, Machine}
use Rattle.virtual_time.specs.Bags.{AllFrom, Each, IsSorted, comes_first, insert, remove, same_item}
use Rattle.virtual_time.specs.Entries.{Entry, Input, Item, Own, latest, number, turn_at}
use Rattle.virtual_time.specs.Records.{sent}
use Rattle.virtual_time.specs.Worlds.{Part, put}
use Rattle.virtual_time.specs.Rules.{IsDone, MayFollow}

pub AllFrom-weaken : {A : Type 0} (b c : ℕ) (xs : List (Item A)) → b ≤ c → AllFrom c xs → AllFrom b xs
AllFrom-weaken b c [] h p = tt
AllFrom-weaken b c (x ∷ xs) h p = (omega arith, AllFrom-weaken b c xs h p.1)

pub put_each : {S A : Type 0} (P : ℕ → Part S A → Type 0) (i : ℕ) (c : Part S A) (parts : ℕ → Part S A)
    → P i c → ((j : ℕ) → P j (parts j)) → (j : ℕ) → P j (put i c parts j)
put_each P i c parts here other j = go (j == i) refl
  where
    go : (b : Bool) → (j == i) ≡ b → P j (cond b c (parts j))
    go true h = subst (λ l. P l c) (sym (eqb-true j i h)) here
    go false h = other j

pub put_same : {S A : Type 0} (i : ℕ) (c : Part S A) (parts : ℕ → Part S A) → put i c parts i ≡ c
put_same i c parts = rw (eq-eqb i i refl)

pub put_other : {S A : Type 0} (i : ℕ) (c : Part S A) (parts : ℕ → Part S A) (j : ℕ) → (j ≡ i → ⊥) → put i c parts j ≡ parts j
put_other i c parts j ne = rw (ne_eqb j i ne)

pub Each-weaken : {A : Type 0} (P Q : Item A → Type 0) (xs : List (Item A)) → ((x : Item A) → P x → Q x) → Each P xs → Each Q xs
Each-weaken P Q [] h p = tt
Each-weaken P Q (x ∷ xs) h p = (h x p.0, Each-weaken P Q xs h p.1)

pub Each-both : {A : Type 0} (P Q R : Item A → Type 0) (xs : List (Item A)) → ((x : Item A) → P x → Q x → R x) → Each P xs → Each Q xs → Each R xs
Each-both P Q R [] h p q = tt
Each-both P Q R (x ∷ xs) h p q = (h x p.0 q.0, Each-both P Q R xs h p.1 q.1)

module _ {S A : Type 0} (machine : Machine S A) where
  pub first_low : (x y : Item A) → comes_first machine x y ≡ true → x.key ≤ y.key
  first_low x y h = go (or_cases (ltb x.key y.key) ((x.key == y.key) && machine.before x.action y.action) h)
    where
      go : (ltb x.key y.key ≡ true) ⊎ (((x.key == y.key) && machine.before x.action y.action) ≡ true) → x.key ≤ y.key
      go (inl e) = let l = ltb-true x.key y.key e in omega arith
      go (inr e) = let l = eqb-true x.key y.key (and_parts (x.key == y.key) (machine.before x.action y.action) e).0 in omega arith

  pub first_lt : (x y : Item A) → x.key < y.key → comes_first machine x y ≡ true
  first_lt x y h = or_left (ltb x.key y.key) ((x.key == y.key) && machine.before x.action y.action) (lt-ltb x.key y.key h)

  pub first_eq : (x y : Item A) → x.key ≡ y.key → machine.before x.action y.action ≡ true → comes_first machine x y ≡ true
  first_eq x y e h = or_right (ltb x.key y.key) ((x.key == y.key) && machine.before x.action y.action) (and_from (x.key == y.key) (machine.before x.action y.action) (eq-eqb x.key y.key e) h)

  -- what comes first has the lesser key, or the same key and the action that comes first
  pub first_cases : (x y : Item A) → comes_first machine x y ≡ true → (x.key < y.key) ⊎ ((x.key ≡ y.key) × (machine.before x.action y.action ≡ true))
  first_cases x y h = go (or_cases (ltb x.key y.key) ((x.key == y.key) && machine.before x.action y.action) h)
    where
      go : (ltb x.key y.key ≡ true) ⊎ (((x.key == y.key) && machine.before x.action y.action) ≡ true) → (x.key < y.key) ⊎ ((x.key ≡ y.key) × (machine.before x.action y.action ≡ true))
      go (inl e) = inl (ltb-true x.key y.key e)
      go (inr e) = let p = and_parts (x.key == y.key) (machine.before x.action y.action) e in inr (eqb-true x.key y.key p.0, p.1)

  pub Each-insert : (P : Item A → Type 0) (x : Item A) (xs : List (Item A)) → P x → Each P xs → Each P (insert machine x xs)
  Each-insert P x [] h p = (h, tt)
  Each-insert P x (y ∷ ys) h p = go (comes_first machine x y) (Each-insert P x ys h p.1)
    where
      go : (t : Bool) → Each P (insert machine x ys) → Each P (cond t (x ∷ y ∷ ys) (y ∷ insert machine x ys))
      go true ih = (h, p)
      go false ih = (p.0, ih)

  pub Each-remove : (P : Item A → Type 0) (x : Item A) (xs : List (Item A)) → Each P xs → Each P (remove machine x xs)
  Each-remove P x [] p = tt
  Each-remove P x (y ∷ ys) p = go (same_item machine y x) (Each-remove P x ys p.1)
    where
      go : (t : Bool) → Each P (remove machine x ys) → Each P (cond t ys (y ∷ remove machine x ys))
      go true ih = p.1
      go false ih = (p.0, ih)

  pub AllFrom-insert : (b : ℕ) (x : Item A) (xs : List (Item A)) → b ≤ x.key → AllFrom b xs → AllFrom b (insert machine x xs)
  AllFrom-insert b x xs h p = Each-insert (λ y. b ≤ y.key) x xs h p

  pub AllFrom-remove : (b : ℕ) (x : Item A) (xs : List (Item A)) → AllFrom b xs → AllFrom b (remove machine x xs)
  AllFrom-remove b x xs p = Each-remove (λ y. b ≤ y.key) x xs p

  pub IsSorted-remove : (x : Item A) (xs : List (Item A)) → IsSorted machine xs → IsSorted machine (remove machine x xs)
  IsSorted-remove x [] p = tt
  IsSorted-remove x (y ∷ ys) p = go (same_item machine y x) (IsSorted-remove x ys p.1)
    where
      go : (t : Bool) → IsSorted machine (remove machine x ys) → IsSorted machine (cond t ys (y ∷ remove machine x ys))
      go true ih = p.1
      go false ih = (Each-remove (λ z. comes_first machine y z ≡ true) x ys p.0, ih)

  pub AllFrom-sent : (b i k : ℕ) (o : Option A) (j : ℕ) (xs : List (Item A)) → b ≤ k → AllFrom b xs → AllFrom b (sent machine i k o j xs)
  AllFrom-sent b i k None j xs h p = p
  AllFrom-sent b i k (Some a) j xs h p = go (machine.receives i a j)
    where
      go : (t : Bool) → AllFrom b (cond t (insert machine (record { key = k; action = a }) xs) xs)
      go true = AllFrom-insert b (record { key = k; action = a }) xs h p
      go false = p

  pub follow_low : (g : ℕ) (es : List (Entry A)) (y : Item A) → MayFollow machine g es y → latest g es ≤ y.key
  follow_low g [] y h = h
  follow_low g (Own k o ∷ es) y h = h
  follow_low g (Input x ∷ es) y h = first_low x y h

  -- the least item goes to the front
  pub insert_front : (x : Item A) (xs : List (Item A)) → Each (λ y. comes_first machine x y ≡ true) xs → insert machine x xs ≡ x ∷ xs
  insert_front x [] p = refl
  insert_front x (y ∷ ys) p = rw p.0

module _ {S A : Type 0} (machine : Machine S A) (law : Lawful machine) where
  pub first_total : (x y : Item A) → comes_first machine x y ≡ false → comes_first machine y x ≡ true
  first_total x y h =
      let p = or_parts (ltb x.key y.key) ((x.key == y.key) && machine.before x.action y.action) h in
      let l = ltb-false x.key y.key p.0 in
      go l p.1 (cases_eq x.key y.key)
    where
      go : y.key ≤ x.key → ((x.key == y.key) && machine.before x.action y.action) ≡ false → (x.key ≡ y.key) ⊎ (x.key ≡ y.key → ⊥) → comes_first machine y x ≡ true
      go l q (inr ne) = first_lt machine y x (omega arith)
      go l q (inl e) = first_eq machine y x (sym e) (law.total x.action y.action (other (and_cases (x.key == y.key) (machine.before x.action y.action) q)))
        where
          other : ((x.key == y.key) ≡ false) ⊎ (machine.before x.action y.action ≡ false) → machine.before x.action y.action ≡ false
          other (inl f) = absurd (eqb-false x.key y.key f e)
          other (inr f) = f

  pub first_chain : (x y z : Item A) → comes_first machine x y ≡ true → comes_first machine y z ≡ true → comes_first machine x z ≡ true
  first_chain x y z h k = go (first_cases machine x y h) (first_cases machine y z k)
    where
      go : (x.key < y.key) ⊎ ((x.key ≡ y.key) × (machine.before x.action y.action ≡ true)) → (y.key < z.key) ⊎ ((y.key ≡ z.key) × (machine.before y.action z.action ≡ true)) → comes_first machine x z ≡ true
      go (inl a) (inl b) = first_lt machine x z (omega arith)
      go (inl a) (inr b) = first_lt machine x z (omega arith)
      go (inr a) (inl b) = first_lt machine x z (omega arith)
      go (inr a) (inr b) = first_eq machine x z (omega arith) (law.chain x.action y.action z.action a.1 b.1)

  pub IsSorted-insert : (x : Item A) (xs : List (Item A)) → IsSorted machine xs → IsSorted machine (insert machine x xs)
  IsSorted-insert x [] p = (tt, tt)
  IsSorted-insert x (y ∷ ys) p = go (comes_first machine x y) refl (IsSorted-insert x ys p.1)
    where
      go : (t : Bool) → comes_first machine x y ≡ t → IsSorted machine (insert machine x ys) → IsSorted machine (cond t (x ∷ y ∷ ys) (y ∷ insert machine x ys))
      go true e ih = ((e, Each-weaken (λ z. comes_first machine y z ≡ true) (λ z. comes_first machine x z ≡ true) ys (λ z h. first_chain x y z e h) p.0), p)
      go false e ih = (Each-insert machine (λ z. comes_first machine y z ≡ true) x ys (first_total x y e) p.0, ih)

  -- what follows the last entry follows the one before it
  pub follow_own : (i g n : ℕ) (s : S) (k : ℕ) (o : Option A) (es : List (Entry A)) → IsDone machine i g n s (Own k o ∷ es) → (y : Item A) → k ≤ y.key → MayFollow machine g es y
  follow_own i g n s k o [] d y h = omega arith
  follow_own i g n s k o (Own k' o' ∷ es) d y h = omega arith
  follow_own i g n s k o (Input x ∷ es) d y h = first_lt machine x y (omega arith)

  pub follow_input : (g : ℕ) (x : Item A) (es : List (Entry A)) → MayFollow machine g es x → (y : Item A) → comes_first machine x y ≡ true → MayFollow machine g es y
  follow_input g x [] d y h = let l = first_low machine x y h in omega arith
  follow_input g x (Own k o ∷ es) d y h = let l = first_low machine x y h in omega arith
  follow_input g x (Input z ∷ es) d y h = first_chain z x y d h

module _ {S A : Type 0} (machine : Machine S A) (law : Lawful machine) (i g n : ℕ) (s : S) where
  -- the next turn is not before the last done entry
  pub reach : (es : List (Entry A)) → IsDone machine i g n s es → latest g es ≤ machine.key i (number n es)
  reach [] d = d
  reach (Own k o ∷ es) d = let up = law.rises i (number n es) in omega arith
  reach (Input x ∷ es) d = omega arith

  pub base_low : (es : List (Entry A)) → IsDone machine i g n s es → g ≤ latest g es
  base_low [] d = omega arith
  base_low (Own k o ∷ es) d = let h = base_low es d.4 in omega arith
  base_low (Input x ∷ es) d = let h = base_low es d.2 in omega arith

  -- no own turn from the next one on is done
  pub own_below : (es : List (Entry A)) (c : ℕ) → IsDone machine i g n s es → machine.key i (number n es) ≤ c → turn_at c es ≡ None
  own_below [] c d h = refl
  own_below (Own k o ∷ es) c d h =
      let up = law.rises i (number n es) in
      let ne : k ≡ c → ⊥ = λ (e : k ≡ c). omega arith in
      let low : machine.key i (number n es) ≤ c = omega arith in
      rw (ne_eqb k c ne) (own_below es c d.4 low)
  own_below (Input x ∷ es) c d h = own_below es c d.2 h
