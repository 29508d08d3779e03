-- What keeps the keys of the done entries in order.
use Rattle.std.proofs.Common.{◌≡◌, ℕ, ◌+◌, ◌≤◌, Bool, true, false, cond, Option, None, Some, List, [], ◌∷◌, refl, arith, if◌then◌else◌}
use Rattle.std.specs.Prelude.{nat_lt, IfSome}
use Rattle.std.proofs.lemmas.Bool.{ltb-true, ltb-false}
use Rattle.std.proofs.lemmas.Bool.Decides.{nat_tests}
use Rattle.terms.specs.Named.{Named}
use Rattle.event_keys.specs.declared.key.Key.{Key}
use Rattle.event_keys.specs.declared.message.Signed.{Signed}
use Rattle.event_keys.specs.Ranks.{rank}
use Rattle.raw_events.specs.Around.{head}
use Rattle.virtual_time.specs.Machine.{Machine}
use Rattle.virtual_time.specs.Bags.{AllFrom, IsSorted, comes_first, insert, remove}
use Rattle.virtual_time.specs.Entries.{Entry, Own, Input, Item, entry_key, from, latest}
use Rattle.virtual_time.specs.Records.{not_later, stays}
use Rattle.virtual_time.proofs.Lists.{AllFrom-insert, AllFrom-remove, AllFrom-weaken, Each-weaken, first_low}
use Rattle.task_seed.specs.Ticks.{ticks-more}
use Rattle.task_seed.specs.Turning.{System, has_turns, key_at, key_of, ticks}
use Rattle.rollback.specs.Coming.{is_before_own}
use Rattle.rollback.specs.Falling.{Falls, IsFalling}
use Rattle.rollback.specs.Flight.{item_of, items_of}

-- the next turn of a component has a greater key
is_key : (b : Bool) (key found : Key) → Some key ≡ (if b then Some found else None) → key ≡ found
is_key true key found e = cc
is_key false key found e = cc

pub rises : (s : System) (i n : ℕ) (key : Key) (next : Option Key) → Some key ≡ key_of s i n → next ≡ key_of s i (n + 1) → IfSome next (λ k. rank key ≤ rank k)
rises s i n key None h e = tt
rises s i n key (Some k) h e =
    let first : key ≡ key_at i n (ticks s i (n + 1)) = is_key (has_turns s i (n + 1)) key (key_at i n (ticks s i (n + 1))) h in
    let second : k ≡ key_at i (n + 1) (ticks s i ((n + 1) + 1)) = is_key (has_turns s i ((n + 1) + 1)) k (key_at i (n + 1) (ticks s i ((n + 1) + 1))) e in
    let more = ticks-more s i (n + 1) in
    rw (first, second) (omega (arith, more))

weaker : (b c : ℕ) (own : Option Key) → b ≤ c → IfSome own (λ key. c ≤ rank key) → IfSome own (λ key. b ≤ rank key)
weaker b c None h e = tt
weaker b c (Some key) h e = omega (arith, h, e)

-- nothing is done
pub falling_none : (own : Option Key) → IsFalling [] [] own
falling_none own = record { done = tt; waiting = tt; next = go own }
  where
    go : (o : Option Key) → IfSome o (λ key. 0 ≤ rank key)
    go None = tt
    go (Some key) = omega arith

module _ {S : Type 0} (m : Machine S Named) where
  -- in order, none is below the first
  all_from : (b : ℕ) (x : Item Named) (xs : List (Item Named)) → b ≤ x.key → IsSorted m (x ∷ xs) → AllFrom b xs
  all_from b x xs h sorted = AllFrom-weaken b x.key xs h (Each-weaken (λ y. comes_first m x y ≡ true) (λ y. x.key ≤ y.key) xs (first_low m x) sorted.0)

  -- none is below an own turn that comes before the first
  from_own : (key : Key) (xs : List Signed) → IsSorted m (items_of xs) → is_before_own (head xs) (Some key) ≡ false → AllFrom (rank key) (items_of xs)
  from_own key [] sorted h = tt
  from_own key (x ∷ xs) sorted h =
      let low = ltb-false (rank x.message.key) (rank key) h in
      (low, all_from (rank key) (item_of x) (items_of xs) low sorted)

  less_own : (x : Signed) (own : Option Key) → is_before_own (Some x) own ≡ true → IfSome own (λ key. rank x.message.key ≤ rank key)
  less_own x None h = tt
  less_own x (Some key) h = let less = ltb-true (rank x.message.key) (rank key) h in omega (arith, less)

  -- the first pending input is done
  pub falling_input : (es : List (Entry Named)) (x : Signed) (xs : List Signed) (own : Option Key) → IsFalling es (items_of (x ∷ xs)) own → IsSorted m (items_of (x ∷ xs)) → is_before_own (Some x) own ≡ true
      → IsFalling (Input (item_of x) ∷ es) (items_of xs) own
  falling_input es x xs own is sorted h =
      record {
        done = (is.waiting.0, is.done);
        waiting = all_from (rank x.message.key) (item_of x) (items_of xs) (omega arith) sorted;
        next = less_own x own h;
      }

  -- the own turn is done
  pub falling_turn : (es : List (Entry Named)) (xs : List Signed) (key : Key) (o : Option Named) (next : Option Key) → IsFalling es (items_of xs) (Some key) → IsSorted m (items_of xs) → is_before_own (head xs) (Some key) ≡ false
      → IfSome next (λ k. rank key ≤ rank k) → IsFalling (Own (rank key) o ∷ es) (items_of xs) next
  falling_turn es xs key o next is sorted h more =
      record { done = (is.next, is.done); waiting = from_own key xs sorted h; next = more }

  -- the last done entry is taken back
  pub falling_back_turn : (es : List (Entry Named)) (xs : List (Item Named)) (key : Key) (o : Option Named) (own : Option Key) → IsFalling (Own (rank key) o ∷ es) xs own → IsFalling es xs (Some key)
  falling_back_turn es xs key o own is =
      record { done = is.done.1; waiting = AllFrom-weaken (latest 0 es) (rank key) xs is.done.0 is.waiting; next = is.done.0 }

  -- an entry is pending that isn't below the newest done one
  pub falling_insert : (es : List (Entry Named)) (x : Item Named) (xs : List (Item Named)) (own : Option Key) → IsFalling es xs own → latest 0 es ≤ x.key → IsFalling es (insert m x xs) own
  falling_insert es x xs own is h = record { done = is.done; waiting = AllFrom-insert m (latest 0 es) x xs h is.waiting; next = is.next }

  pub falling_remove : (es : List (Entry Named)) (x : Item Named) (xs : List (Item Named)) (own : Option Key) → IsFalling es xs own → IsFalling es (remove m x xs) own
  falling_remove es x xs own is = record { done = is.done; waiting = AllFrom-remove m (latest 0 es) x xs is.waiting; next = is.next }

  pub falling_back_input : (es : List (Entry Named)) (x : Item Named) (xs : List (Item Named)) (own : Option Key) → IsFalling (Input x ∷ es) xs own → IsFalling es (insert m x xs) own
  falling_back_input es x xs own is =
      falling_insert es x xs own (record { done = is.done.1; waiting = AllFrom-weaken (latest 0 es) x.key xs is.done.0 is.waiting; next = weaker (latest 0 es) x.key own is.done.0 is.next }) is.done.0

  low_by : (x : Item Named) (e : Entry Named) → stays m x e ≡ true → entry_key e ≤ x.key
  low_by x (Own k o) h = grind (arith, nat_tests)
  low_by x (Input y) h = first_low m y x h

  -- what isn't later than a message isn't above it
  pub not_later_low : (x : Item Named) (es : List (Entry Named)) → latest 0 (not_later m x es) ≤ x.key
  not_later_low x [] = omega arith
  not_later_low x (e ∷ es) = go (not_later_low x es) (stays m x e) refl
    where
      go : latest 0 (not_later m x es) ≤ x.key → (b : Bool) → stays m x e ≡ b → latest 0 (cond b (e ∷ es) (not_later m x es)) ≤ x.key
      go rest true h = low_by x e h
      go rest false h = rest

-- a first part of the done entries
latest_from : (c : ℕ) (es : List (Entry Named)) → latest 0 (from c es) ≤ latest 0 es
latest_from c [] = omega arith
latest_from c (e ∷ es) = go (nat_lt (entry_key e) c)
  where
    go : (b : Bool) → latest 0 (cond b [] (e ∷ from c es)) ≤ entry_key e
    go true = omega arith
    go false = omega arith

falls_from : (c : ℕ) (es : List (Entry Named)) → Falls es → Falls (from c es)
falls_from c [] f = tt
falls_from c (e ∷ es) f = go (falls_from c es f.1) (nat_lt (entry_key e) c)
  where
    go : Falls (from c es) → (b : Bool) → Falls (cond b [] (e ∷ from c es))
    go rest true = tt
    go rest false = let low = latest_from c es in let first = f.0 in (omega (arith, low, first), rest)

pub falling_from : (c : ℕ) (es : List (Entry Named)) (xs : List (Item Named)) (own : Option Key) → IsFalling es xs own → IsFalling (from c es) xs own
falling_from c es xs own is =
    let low = latest_from c es in
    record {
      done = falls_from c es is.done;
      waiting = AllFrom-weaken (latest 0 (from c es)) (latest 0 es) xs low is.waiting;
      next = weaker (latest 0 (from c es)) (latest 0 es) own low is.next;
    }
