-- The key of the next entry is the least of the pending keys and the key of the own turn; the first message of a bag has the least key.
use Rattle.std.proofs.Common.{◌≡◌, ℕ, ◌≤◌, ◌==◌, Bool, true, false, cond, None, Some, List, [], ◌∷◌, refl, sym, ap, subst, ◌∙◌, arith, rules}
use Rattle.std.specs.Prelude.{nat_lt, ◌||◌, ◌&&◌, if◌then◌else◌}
use Rattle.std.proofs.lemmas.Bool.{ltb-true, ltb-false, eqb-true, eq-eqb, and_parts}
use Rattle.std.proofs.lemmas.Bool.Decides.{nat_tests}
use Rattle.std.specs.declared.cmp.Ordering.{Ordering}
use Rattle.std.specs.declared.cmp.Ordering.TheVariants.{Less, Equal, Greater}
use Rattle.std.specs.Ordering.{is_gt, nat_cmp, ordering_then}
use Rattle.terms.specs.Named.{Named}
use Rattle.event_keys.specs.declared.message.Sign.{Sign}
use Rattle.event_keys.specs.declared.message.Sign.TheVariants.{Plus, Minus}
use Rattle.event_keys.specs.declared.message.Signed.{Signed}
use Rattle.event_keys.specs.Orders.{key_order, signed_order, message_order}
use Rattle.event_keys.specs.Ranked.{key_rank}
use Rattle.event_keys.specs.Ranks.{rank, rank_of_bound}
use Rattle.antimessage.specs.Bags.{least_of}
use Rattle.antimessage.specs.Counts.{Each, signed_cmp}
use Rattle.antimessage.specs.Order.{Fits, IsInOrder}
use Rattle.virtual_time.specs.Bags.{AllFrom, Each as EachItem, IsSorted, comes_first}
use Rattle.virtual_time.specs.Entries.{Item, Own, Input, number, replay}
use Rattle.virtual_time.specs.Machine.{Machine, Lawful}
use Rattle.virtual_time.specs.Records.{Record, next_of, own_next, least_of as least_next}
use Rattle.task_seed.specs.Machines.{end_rank}
use Rattle.rollback.specs.ComponentView.{next_key}
use Rattle.rollback.specs.Flight.{in_flight, is_sign, item_of, goes}
use Rattle.rollback.proofs.Sending.{end_is}

module _ {S : Type 0} (m : Machine S Named) (law : Lawful m) (i : ℕ) where
  own_low : (r : Record S Named) → next_key m (own_next m i r) ≤ m.key i (number r.first r.done)
  own_low r = go (nat_lt (m.key i (number r.first r.done)) m.top) refl
    where
      go : (t : Bool) → nat_lt (m.key i (number r.first r.done)) m.top ≡ t
          → next_key m (cond t (Some (Own (m.key i (number r.first r.done)) (m.outcome i (number r.first r.done) (replay m i r.base r.done)))) None) ≤ m.key i (number r.first r.done)
      go true e = omega arith
      go false e = ltb-false (m.key i (number r.first r.done)) m.top e

  own_most : (d : ℕ) (r : Record S Named) → d ≤ m.key i (number r.first r.done) → d ≤ next_key m (own_next m i r)
  own_most d r l = go (nat_lt (m.key i (number r.first r.done)) m.top)
    where
      go : (t : Bool) → d ≤ next_key m (cond t (Some (Own (m.key i (number r.first r.done)) (m.outcome i (number r.first r.done) (replay m i r.base r.done)))) None)
      go true = l
      go false = let b = law.bounded i (number r.first r.done) in omega (arith, l, b)

  after_key : (x y : Item Named) → comes_first m x y ≡ true → x.key ≤ y.key
  after_key x y h = go (nat_lt x.key y.key) refl h
    where
      go : (t : Bool) → nat_lt x.key y.key ≡ t → (t || ((x.key == y.key) && m.before x.action y.action)) ≡ true → x.key ≤ y.key
      go true e k = let l = ltb-true x.key y.key e in omega (arith, l)
      go false e k = let q = eqb-true x.key y.key (and_parts (x.key == y.key) (m.before x.action y.action) k).0 in omega (arith, q)

  all_after : (b : ℕ) (x : Item Named) (ys : List (Item Named)) → b ≤ x.key → EachItem (λ y. comes_first m x y ≡ true) ys → AllFrom b ys
  all_after b x [] l h = tt
  all_after b x (y ∷ ys) l h = let k = after_key x y h.0 in (omega (arith, l, k), all_after b x ys l h.1)

  low_of : (r : Record S Named) (xs : List (Item Named)) → next_key m (least_next m i r xs) ≤ m.key i (number r.first r.done)
  low_of r [] = own_low r
  low_of r (x ∷ xs) = go (nat_lt x.key (m.key i (number r.first r.done))) refl
    where
      go : (t : Bool) → nat_lt x.key (m.key i (number r.first r.done)) ≡ t → next_key m (cond t (Some (Input x)) (own_next m i r)) ≤ m.key i (number r.first r.done)
      go true e = let l = ltb-true x.key (m.key i (number r.first r.done)) e in omega (arith, l)
      go false e = own_low r

  from_of : (r : Record S Named) (xs : List (Item Named)) → IsSorted m xs → AllFrom (next_key m (least_next m i r xs)) xs
  from_of r [] o = tt
  from_of r (x ∷ xs) o = go (nat_lt x.key (m.key i (number r.first r.done))) refl
    where
      go : (t : Bool) → nat_lt x.key (m.key i (number r.first r.done)) ≡ t → AllFrom (next_key m (cond t (Some (Input x)) (own_next m i r))) (x ∷ xs)
      go true e = (omega arith, all_after x.key x xs (omega arith) o.0)
      go false e =
          let l = ltb-false x.key (m.key i (number r.first r.done)) e in
          let k = own_low r in
          let low : next_key m (own_next m i r) ≤ x.key = omega (arith, l, k) in
          (low, all_after (next_key m (own_next m i r)) x xs low o.0)

  most_of : (d : ℕ) (r : Record S Named) (xs : List (Item Named)) → d ≤ m.key i (number r.first r.done) → AllFrom d xs → d ≤ next_key m (least_next m i r xs)
  most_of d r [] l h = own_most d r l
  most_of d r (x ∷ xs) l h = go (nat_lt x.key (m.key i (number r.first r.done)))
    where
      go : (t : Bool) → d ≤ next_key m (cond t (Some (Input x)) (own_next m i r))
      go true = h.0
      go false = own_most d r l

  pub next_low : (r : Record S Named) → next_key m (next_of m i r) ≤ m.key i (number r.first r.done)
  next_low r = low_of r r.pending

  pub next_from : (r : Record S Named) → IsSorted m r.pending → AllFrom (next_key m (next_of m i r)) r.pending
  next_from r = from_of r r.pending

  pub next_most : (d : ℕ) (r : Record S Named) → d ≤ m.key i (number r.first r.done) → AllFrom d r.pending → d ≤ next_key m (next_of m i r)
  next_most d r = most_of d r r.pending

not_greater_first : (a b : Ordering) → is_gt (ordering_then a b) ≡ false → is_gt a ≡ false
not_greater_first Less b h = refl
not_greater_first Equal b h = refl
not_greater_first Greater b h = h

not_greater : (a b : ℕ) → is_gt (nat_cmp a b) ≡ false → a ≤ b
not_greater a b h = grind (arith, nat_tests)

-- of messages in order the first has the least key
pub key_after : (x y : Signed) → Fits x → Fits y → is_gt (signed_cmp x y) ≡ false → rank x.message.key ≤ rank y.message.key
key_after x y f g h =
    let order : signed_cmp x y ≡ signed_order x y = search rules in
    let by_keys : is_gt (key_order x.message.key y.message.key) ≡ false = not_greater_first (key_order x.message.key y.message.key) _ (not_greater_first (message_order x.message y.message) _ (ap is_gt (sym order) ∙ h)) in
    not_greater (rank x.message.key) (rank y.message.key) (ap is_gt (sym (key_rank x.message.key y.message.key f.0 f.1 g.0 g.1)) ∙ by_keys)

-- what is in flight of messages after one of this key
flight_after : (x : Signed) (sign : Sign) (j : ℕ) (ys : List Signed) → Fits x → Each Fits ys → Each (λ y. is_gt (signed_cmp x y) ≡ false) ys → AllFrom (rank x.message.key) (in_flight sign j ys)
flight_after x sign j [] f g h = tt
flight_after x sign j (y ∷ ys) f g h = go (goes sign j y) (flight_after x sign j ys f g.1 h.1)
  where
    go : (t : Bool) → AllFrom (rank x.message.key) (in_flight sign j ys) → AllFrom (rank x.message.key) (if t then item_of y ∷ in_flight sign j ys else in_flight sign j ys)
    go true rest = (key_after x y f g.0 h.0, rest)
    go false rest = rest

-- nothing in flight is below the key of the first
pub flight_low : (sign : Sign) (j : ℕ) (xs : List Signed) → IsInOrder xs → AllFrom (rank_of_bound (least_of xs)) (in_flight sign j xs)
flight_low sign j [] o = tt
flight_low sign j (x ∷ xs) o = go (goes sign j x) (flight_after x sign j xs o.fits.0 o.fits.1 o.sorted.0)
  where
    go : (t : Bool) → AllFrom (rank x.message.key) (in_flight sign j xs) → AllFrom (rank x.message.key) (if t then item_of x ∷ in_flight sign j xs else in_flight sign j xs)
    go true rest = (omega arith, rest)
    go false rest = rest

-- what nothing in flight is below, the first isn't below
pub flight_most : (d : ℕ) (xs : List Signed) → d ≤ end_rank → ((sign : Sign) (j : ℕ) → AllFrom d (in_flight sign j xs)) → d ≤ rank_of_bound (least_of xs)
flight_most d [] e h = subst (λ n. d ≤ n) end_is e
flight_most d (x ∷ xs) e h = (subst (AllFrom d) there (h x.sign x.message.to)).0
  where
    own : (sign : Sign) → is_sign sign sign ≡ true
    own Plus = refl
    own Minus = refl

    goes_there : goes x.sign x.message.to x ≡ true
    goes_there = λ v. own x.sign v && eq-eqb x.message.to x.message.to refl v

    there : in_flight x.sign x.message.to (x ∷ xs) ≡ item_of x ∷ in_flight x.sign x.message.to xs
    there = ap (λ (b : Bool). if b then item_of x ∷ in_flight x.sign x.message.to xs else in_flight x.sign x.message.to xs) goes_there
