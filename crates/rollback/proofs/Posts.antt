-- What is posted to each component is what the theory sends.
use Rattle.std.proofs.Common.{◌≡◌, ℕ, ◌+◌, ◌<◌, ◌≤◌, ◌==◌, ◌||◌, Bool, true, false, cond, Some, List, [], ◌∷◌, ◌++◌, map, length, drop, get_or, add-one, drop-cons, refl, ap, ◌∙◌, arith}
use Rattle.std.proofs.lemmas.Bool.{and_from, and_left, and_right, or_from, or_parts}
use Rattle.std.proofs.lemmas.Bool.Decides.{nat_tests}
use Rattle.terms.specs.Named.{Named}
use Rattle.event_keys.specs.declared.key.Key.{Key}
use Rattle.event_keys.specs.declared.message.Sign.{Sign}
use Rattle.event_keys.specs.declared.message.Sign.TheVariants.{Plus, Minus}
use Rattle.event_keys.specs.declared.message.Signed.{Signed}
use Rattle.event_keys.specs.Ranks.{rank}
use Rattle.antimessage.specs.Bags.{insert}
use Rattle.antimessage.specs.Counts.{Each}
use Rattle.antimessage.specs.Order.{Fits, IsInOrder, KeyFits}
use Rattle.io_automata.specs.Receivers.{IsIn, Rising}
use Rattle.io_automata.specs.Signatures.{receives}
use Rattle.virtual_time.specs.Bags as theory
use Rattle.virtual_time.specs.Entries.{Item}
use Rattle.virtual_time.specs.Records.{sent}
use Rattle.task_seed.specs.Machines.{machine}
use Rattle.task_seed.specs.Turning.{System}
use Rattle.rollback.specs.Flight.{goes, in_flight, is_sign, item_of}
use Rattle.rollback.specs.Post.{IsPosted, opposite, post_all, signed_to}
use Rattle.rollback.proofs.Flight.{insert_elsewhere, insert_there, order_insert}

same_sign : (sign : Sign) → is_sign sign sign ≡ true
same_sign Plus = refl
same_sign Minus = refl

other_sign : (sign : Sign) → is_sign (opposite sign) sign ≡ false
other_sign Plus = refl
other_sign Minus = refl

equal_places : (j k : ℕ) → (j == k) ≡ true → (k == j) ≡ true
equal_places j k h = grind (arith, nat_tests)

unequal_places : (j k : ℕ) → (j == k) ≡ false → (k == j) ≡ false
unequal_places j k h = grind (arith, nat_tests)

below_first : (j b k : ℕ) → j < b → b ≤ k → (j == k) ≡ false
below_first j b k l h = grind (arith, nat_tests)

-- a number below the first of a rising list isn't in it
pub not_below : (j b : ℕ) (ks : List ℕ) → j < b → Rising b ks → IsIn j ks ≡ false
not_below j b [] l r = refl
not_below j b (k ∷ ks) l r =
    let low : b ≤ k = r.0 in
    let next : j < k + 1 = omega arith in
    or_from (j == k) (IsIn j ks) (below_first j b k l low) (not_below j (k + 1) ks next r.1)

next_above : (j k : ℕ) → (j == k) ≡ true → j < k + 1
next_above j k e = grind (arith, nat_tests)

pub post_order : (xs bag : List Signed) → Each Fits xs → IsInOrder bag → IsInOrder (post_all xs bag)
post_order [] bag f o = o
post_order (x ∷ xs) bag f o = post_order xs (insert x bag) f.1 (order_insert x bag o f.0)

-- some posted, and then more
pub post_more : (xs ys bag : List Signed) → post_all (xs ++ ys) bag ≡ post_all ys (post_all xs bag)
post_more [] ys bag = refl
post_more (x ∷ xs) ys bag = post_more xs ys (insert x bag)

-- one more posted, of those made from a list
pub post_next : {X : Type 0} (f : X → Signed) (xs : List X) (k : ℕ) (d : X) (bag : List Signed) → k < length xs → post_all (map f (drop k xs)) bag ≡ post_all (map f (drop (k + 1) xs)) (insert (f (get_or xs k d)) bag)
post_next f xs k d bag h =
    let next : drop k xs ≡ get_or xs k d ∷ drop (k + 1) xs = rw (add-one, drop-cons xs k d) in
    ap (λ ys. post_all (map f ys) bag) next

-- one message posted
pub posted_one : (s : System) (x : Signed) (bag : List Signed) → IsInOrder bag → Fits x → IsPosted x.sign (λ j xs. cond (x.message.to == j) (theory.insert (machine s) (item_of x) xs) xs) bag (insert x bag)
posted_one s x bag o f = record {
  there = λ j. go j (x.message.to == j) refl;
  other = λ j. insert_elsewhere s (opposite x.sign) j x bag (and_left (is_sign (opposite x.sign) x.sign) (x.message.to == j) (other_sign x.sign));
} where
  go : (j : ℕ) (b : Bool) → (x.message.to == j) ≡ b → in_flight x.sign j (insert x bag) ≡ cond b (theory.insert (machine s) (item_of x) (in_flight x.sign j bag)) (in_flight x.sign j bag)
  go j true e = insert_there s x.sign j x bag o f (and_from (is_sign x.sign x.sign) (x.message.to == j) (same_sign x.sign) e)
  go j false e = insert_elsewhere s x.sign j x bag (and_right (is_sign x.sign x.sign) (x.message.to == j) e)

module _ (s : System) (sign : Sign) (key : Key) (action : Named) where
  goes_to : (j k : ℕ) → (j == k) ≡ true → goes sign j (signed_to sign key action k) ≡ true
  goes_to j k e = and_from (is_sign sign sign) (k == j) (same_sign sign) (equal_places j k e)

  goes_by : (j k : ℕ) → (j == k) ≡ false → goes sign j (signed_to sign key action k) ≡ false
  goes_by j k e = and_right (is_sign sign sign) (k == j) (unequal_places j k e)

  posted_by : (j : ℕ) (js : List ℕ) (bag : List Signed) → IsIn j js ≡ false → in_flight sign j (post_all (map (signed_to sign key action) js) bag) ≡ in_flight sign j bag
  posted_by j [] bag h = refl
  posted_by j (k ∷ ks) bag h =
      let parts = or_parts (j == k) (IsIn j ks) h in
      posted_by j ks (insert (signed_to sign key action k) bag) parts.1
      ∙ insert_elsewhere s sign j (signed_to sign key action k) bag (goes_by j k parts.0)

  -- the opposite sign has nothing more
  pub posted_other : (j : ℕ) (js : List ℕ) (bag : List Signed) → in_flight (opposite sign) j (post_all (map (signed_to sign key action) js) bag) ≡ in_flight (opposite sign) j bag
  posted_other j [] bag = refl
  posted_other j (k ∷ ks) bag =
      posted_other j ks (insert (signed_to sign key action k) bag)
      ∙ insert_elsewhere s (opposite sign) j (signed_to sign key action k) bag (and_left (is_sign (opposite sign) sign) (k == j) (other_sign sign))

  module _ (fit : KeyFits key) where
    pub posted_order : (js : List ℕ) (bag : List Signed) → IsInOrder bag → IsInOrder (post_all (map (signed_to sign key action) js) bag)
    posted_order [] bag o = o
    posted_order (k ∷ ks) bag o = posted_order ks (insert (signed_to sign key action k) bag) (order_insert (signed_to sign key action k) bag o fit)

    posted_at : (j b : ℕ) (js : List ℕ) (bag : List Signed) → Rising b js → IsInOrder bag
        → in_flight sign j (post_all (map (signed_to sign key action) js) bag) ≡ cond (IsIn j js) (theory.insert (machine s) (record { key = rank key; action = action }) (in_flight sign j bag)) (in_flight sign j bag)
    posted_at j b [] bag r o = refl
    posted_at j b (k ∷ ks) bag r o = go (posted_at j (k + 1) ks (insert (signed_to sign key action k) bag) r.1 (order_insert (signed_to sign key action k) bag o fit)) (j == k) refl where
      go : in_flight sign j (post_all (map (signed_to sign key action) ks) (insert (signed_to sign key action k) bag)) ≡ cond (IsIn j ks) (theory.insert (machine s) (record { key = rank key; action = action }) (in_flight sign j (insert (signed_to sign key action k) bag))) (in_flight sign j (insert (signed_to sign key action k) bag))
          → (b : Bool) → (j == k) ≡ b
          → in_flight sign j (post_all (map (signed_to sign key action) ks) (insert (signed_to sign key action k) bag)) ≡ cond (b || IsIn j ks) (theory.insert (machine s) (record { key = rank key; action = action }) (in_flight sign j bag)) (in_flight sign j bag)
      go rest true e =
          posted_by j ks (insert (signed_to sign key action k) bag) (not_below j (k + 1) ks (next_above j k e) r.1)
          ∙ insert_there s sign j (signed_to sign key action k) bag o fit (goes_to j k e)
      go rest false e =
          rest
          ∙ ap (λ xs. cond (IsIn j ks) (theory.insert (machine s) (record { key = rank key; action = action }) xs) xs) (insert_elsewhere s sign j (signed_to sign key action k) bag (goes_by j k e))

    -- to each component what the theory sends, where the receivers are listed in order
    pub posted_there : (i j : ℕ) (js : List ℕ) (bag : List Signed) → Rising 0 js → IsIn j js ≡ receives s.composition i action j → IsInOrder bag
        → in_flight sign j (post_all (map (signed_to sign key action) js) bag) ≡ sent (machine s) i (rank key) (Some action) j (in_flight sign j bag)
    posted_there i j js bag once all o =
        posted_at j 0 js bag once o
        ∙ ap (λ b. cond b (theory.insert (machine s) (record { key = rank key; action = action }) (in_flight sign j bag)) (in_flight sign j bag)) all

    pub posted : (i : ℕ) (js : List ℕ) (bag : List Signed) → Rising 0 js → ((j : ℕ) → IsIn j js ≡ receives s.composition i action j) → IsInOrder bag
        → IsPosted sign (sent (machine s) i (rank key) (Some action)) bag (post_all (map (signed_to sign key action) js) bag)
    posted i js bag once all o = record {
      there = λ j. posted_there i j js bag once (all j) o;
      other = λ j. posted_other j js bag;
    }

pub not_posted : (sign : Sign) (bag : List Signed) → IsPosted sign (λ j xs. xs) bag bag
not_posted sign bag = record { there = λ j. refl; other = λ j. refl }

pub posted_then : (sign : Sign) (f g : ℕ → List (Item Named) → List (Item Named)) (a b c : List Signed) → IsPosted sign f a b → IsPosted sign g b c → IsPosted sign (λ j xs. g j (f j xs)) a c
posted_then sign f g a b c p q = record {
  there = λ j. q.there j ∙ ap (g j) (p.there j);
  other = λ j. q.other j ∙ p.other j;
}
