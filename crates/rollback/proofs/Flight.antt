-- What a bag has in flight is a bag of the theory.
use Rattle.std.proofs.Common.{◌≡◌, ℕ, ◌+◌, ◌==◌, ◌&&◌, ◌||◌, not, Bool, true, false, cond, nat_lt, is_some, Some, List, [], ◌∷◌, refl, sym, subst, ap, ◌∙◌, if◌then◌else◌, arith, rules}
use Rattle.std.proofs.lemmas.Bool.{and_parts, lt-ltb}
use Rattle.std.proofs.lemmas.Bool.Decides.{nat_tests}
use Rattle.std.specs.declared.cmp.Ordering.{Ordering}
use Rattle.std.specs.declared.cmp.Ordering.TheVariants.{Less, Equal, Greater}
use Rattle.std.specs.Ordering.{is_gt, is_eq, nat_cmp, ordering_then}
use Rattle.event_keys.specs.declared.message.Sign.{Sign}
use Rattle.event_keys.specs.declared.message.Sign.TheVariants.{Plus, Minus}
use Rattle.event_keys.specs.declared.message.Signed.{Signed}
use Rattle.event_keys.specs.contracts.message.SignedOrd.TheImpl.Laws.{matches_eq-law}
use Rattle.event_keys.specs.Orders.{action_order, key_order, sign_order, signed_order}
use Rattle.event_keys.specs.Ranked.{key_rank}
use Rattle.event_keys.specs.Ranks.{rank}
use Rattle.antimessage.specs.Bags.{insert, is_one, remove}
use Rattle.raw_events.specs.Around.{first_where, without_where}
use Rattle.antimessage.specs.Counts.{Each, IsSorted, is_same, signed_cmp}
use Rattle.antimessage.specs.Order.{Fits, IsInOrder}
use Rattle.antimessage.proofs.Counting.{level, signed_decides, signed_level}
use Rattle.antimessage.proofs.Sorted.{at_most, each_inserted, each_left, each_more, signed_inserted, signed_left, signed_total, turned}
use Rattle.virtual_time.specs.Bags as theory
use Rattle.virtual_time.specs.Bags.{hit}
use Rattle.virtual_time.proofs.Lists.{insert_front}
use Rattle.task_seed.specs.Machines.{machine}
use Rattle.task_seed.specs.Turning.{System}
use Rattle.rollback.specs.Flight.{AllGo, goes, in_flight, is_sign, item_of, items_of}

-- of two that have one sign neither comes first by it
level_sign : (sign a b : Sign) → is_sign sign a ≡ true → is_sign sign b ≡ true → sign_order a b ≡ Equal
level_sign Plus Plus Plus p q = refl
level_sign Plus Plus Minus p q = cc
level_sign Plus Minus b p q = cc
level_sign Minus Plus b p q = cc
level_sign Minus Minus Plus p q = cc
level_sign Minus Minus Minus p q = refl

level_place : (j a b : ℕ) → (a == j) ≡ true → (b == j) ≡ true → nat_cmp a b ≡ Equal
level_place j a b p q = grind (arith, nat_tests)

-- messages with one sign to one component are compared by the ranks of their keys, then by their actions
abbrev by_rank : Signed → Signed → Ordering
by_rank x y = ordering_then (ordering_then (nat_cmp (rank x.message.key) (rank y.message.key)) (ordering_then (action_order x.message.action y.message.action) Equal)) Equal

compared : (sign : Sign) (j : ℕ) (x y : Signed) → Fits x → Fits y → goes sign j x ≡ true → goes sign j y ≡ true → signed_cmp x y ≡ by_rank x y
compared sign j x y f g p q =
    let order : signed_cmp x y ≡ signed_order x y = search rules in
    let first = and_parts (is_sign sign x.sign) (x.message.to == j) p in
    let second = and_parts (is_sign sign y.sign) (y.message.to == j) q in
    let keys : key_order x.message.key y.message.key ≡ nat_cmp (rank x.message.key) (rank y.message.key) = key_rank x.message.key y.message.key f.0 f.1 g.0 g.1 in
    let places : nat_cmp x.message.to y.message.to ≡ Equal = level_place j x.message.to y.message.to first.1 second.1 in
    let signs : sign_order x.sign y.sign ≡ Equal = level_sign sign x.sign y.sign first.0 second.0 in
    order ∙ (λ i. ordering_then (ordering_then (keys i) (ordering_then (action_order x.message.action y.message.action) (places i))) (signs i))

not_after : (less same : Bool) (o : Ordering) → (less || (same && not (is_gt o))) ≡ not (is_gt (ordering_then (ordering_then (cond less Less (cond same Equal Greater)) (ordering_then o Equal)) Equal))
not_after true same o = refl
not_after false true Less = refl
not_after false true Equal = refl
not_after false true Greater = refl
not_after false false o = refl

both_same : (less same : Bool) (o : Ordering) → (less ≡ true → same ≡ false) → (same && is_eq o) ≡ is_eq (ordering_then (ordering_then (cond less Less (cond same Equal Greater)) (ordering_then o Equal)) Equal)
both_same true true o apart = let never : ◌≡◌ {A = Bool} true false = apart refl in cc
both_same true false o apart = refl
both_same false true Less apart = refl
both_same false true Equal apart = refl
both_same false true Greater apart = refl
both_same false false o apart = refl

apart : (a b : ℕ) → nat_lt a b ≡ true → (a == b) ≡ false
apart a b h = grind (arith, nat_tests)

both_false : (b : Bool) → true ≡ not b → b ≡ false
both_false true e = cc
both_false false e = refl

module _ (s : System) (sign : Sign) (j : ℕ) where
  -- the theory's order of messages is theirs
  pub item_order : (x y : Signed) → Fits x → Fits y → goes sign j x ≡ true → goes sign j y ≡ true → theory.comes_first (machine s) (item_of x) (item_of y) ≡ not (is_gt (signed_cmp x y))
  item_order x y f g p q =
      not_after (nat_lt (rank x.message.key) (rank y.message.key)) (rank x.message.key == rank y.message.key) (action_order x.message.action y.message.action)
      ∙ ap (λ o. not (is_gt o)) (sym (compared sign j x y f g p q))

  -- the theory's equality of messages is theirs
  pub item_same : (x y : Signed) → Fits x → Fits y → goes sign j x ≡ true → goes sign j y ≡ true → theory.same_item (machine s) (item_of x) (item_of y) ≡ is_same x y
  item_same x y f g p q =
      let agrees : is_same x y ≡ is_eq (signed_cmp x y) = matches_eq-law x y in
      both_same (nat_lt (rank x.message.key) (rank y.message.key)) (rank x.message.key == rank y.message.key) (action_order x.message.action y.message.action) (apart (rank x.message.key) (rank y.message.key))
      ∙ ap is_eq (sym (compared sign j x y f g p q))
      ∙ sym agrees

  comes_after : (x y : Signed) → Fits x → Fits y → goes sign j x ≡ true → goes sign j y ≡ true → is_gt (signed_cmp x y) ≡ false → theory.comes_first (machine s) (item_of x) (item_of y) ≡ true
  comes_after x y f g p q l = item_order x y f g p q ∙ ap not l

  -- what is not below x comes after it in the theory
  each_after : (x : Signed) (ys : List Signed) → Fits x → goes sign j x ≡ true → Each Fits ys → Each (λ y. is_gt (signed_cmp x y) ≡ false) ys → theory.Each (λ z. theory.comes_first (machine s) (item_of x) z ≡ true) (in_flight sign j ys)
  each_after x [] f p e l = tt
  each_after x (y ∷ ys) f p e l = go (each_after x ys f p e.1 l.1) (goes sign j y) refl where
    go : theory.Each (λ z. theory.comes_first (machine s) (item_of x) z ≡ true) (in_flight sign j ys) → (b : Bool) → goes sign j y ≡ b → theory.Each (λ z. theory.comes_first (machine s) (item_of x) z ≡ true) (if b then item_of y ∷ in_flight sign j ys else in_flight sign j ys)
    go rest true q = (comes_after x y f e.0 p q l.0, rest)
    go rest false q = rest

  seen : (x : Signed) (xs : List Signed) → goes sign j x ≡ true → in_flight sign j (x ∷ xs) ≡ item_of x ∷ in_flight sign j xs
  seen x xs p = ap (λ b. if b then item_of x ∷ in_flight sign j xs else in_flight sign j xs) p

  unseen : (x : Signed) (xs : List Signed) → goes sign j x ≡ false → in_flight sign j (x ∷ xs) ≡ in_flight sign j xs
  unseen x xs p = ap (λ b. if b then item_of x ∷ in_flight sign j xs else in_flight sign j xs) p

  -- where each goes, what is in flight is the whole list
  pub items_flight : (xs : List Signed) → AllGo sign j xs → in_flight sign j xs ≡ items_of xs
  items_flight [] a = refl
  items_flight (x ∷ xs) a = seen x xs a.0 ∙ ap (λ zs. item_of x ∷ zs) (items_flight xs a.1)

  inserted_there : (x : Signed) (bag : List Signed) → Fits x → goes sign j x ≡ true → IsSorted bag → Each Fits bag → in_flight sign j (insert x bag) ≡ theory.insert (machine s) (item_of x) (in_flight sign j bag)
  inserted_there x [] f p r e = seen x [] p
  inserted_there x (y ∷ ys) f p r e = go (inserted_there x ys f p r.1 e.1) (is_gt (signed_cmp y x)) refl where
    go : in_flight sign j (insert x ys) ≡ theory.insert (machine s) (item_of x) (in_flight sign j ys) → (b : Bool) → is_gt (signed_cmp y x) ≡ b → in_flight sign j (if b then x ∷ y ∷ ys else y ∷ insert x ys) ≡ theory.insert (machine s) (item_of x) (in_flight sign j (y ∷ ys))
    go rest true h =
        let below : is_gt (signed_cmp x y) ≡ false = turned (signed_cmp x y) (signed_cmp y x) (signed_total.antisymm x y) h in
        let all : Each (λ z. is_gt (signed_cmp x z) ≡ false) ys = each_more (λ z. is_gt (signed_cmp y z) ≡ false) (λ z. is_gt (signed_cmp x z) ≡ false) (λ z. at_most signed_cmp signed_total x y z below) ys r.0 in
        seen x (y ∷ ys) p ∙ sym (insert_front (machine s) (item_of x) (in_flight sign j (y ∷ ys)) (each_after x (y ∷ ys) f p e (below, all)))
    go rest false h = at (goes sign j y) refl where
      at : (b : Bool) → goes sign j y ≡ b → (if b then item_of y ∷ in_flight sign j (insert x ys) else in_flight sign j (insert x ys)) ≡ theory.insert (machine s) (item_of x) (if b then item_of y ∷ in_flight sign j ys else in_flight sign j ys)
      at false q = rest
      at true q = front (theory.comes_first (machine s) (item_of x) (item_of y)) refl where
        front : (b : Bool) → theory.comes_first (machine s) (item_of x) (item_of y) ≡ b → item_of y ∷ in_flight sign j (insert x ys) ≡ cond b (item_of x ∷ item_of y ∷ in_flight sign j ys) (item_of y ∷ theory.insert (machine s) (item_of x) (in_flight sign j ys))
        front false c = ap (λ zs. item_of y ∷ zs) rest
        front true c =
            let low : is_gt (signed_cmp x y) ≡ false = both_false (is_gt (signed_cmp x y)) (sym c ∙ item_order x y f e.0 p q) in
            let same : x ≡ y = level is_same signed_decides signed_cmp signed_total signed_level x y low h in
            let all : Each (λ z. is_gt (signed_cmp x z) ≡ false) ys = subst (λ w. Each (λ z. is_gt (signed_cmp w z) ≡ false) ys) (sym same) r.0 in
            ap (λ zs. item_of y ∷ zs) (rest ∙ insert_front (machine s) (item_of x) (in_flight sign j ys) (each_after x ys f p e.1 all))
            ∙ ap (λ w. item_of w ∷ item_of x ∷ in_flight sign j ys) (sym same)
            ∙ ap (λ w. item_of x ∷ item_of w ∷ in_flight sign j ys) same

  pub insert_there : (x : Signed) (bag : List Signed) → IsInOrder bag → Fits x → goes sign j x ≡ true → in_flight sign j (insert x bag) ≡ theory.insert (machine s) (item_of x) (in_flight sign j bag)
  insert_there x bag o f p = inserted_there x bag f p o.sorted o.fits

  -- what goes elsewhere changes nothing here
  pub insert_elsewhere : (x : Signed) (bag : List Signed) → goes sign j x ≡ false → in_flight sign j (insert x bag) ≡ in_flight sign j bag
  insert_elsewhere x [] p = unseen x [] p
  insert_elsewhere x (y ∷ ys) p = go (insert_elsewhere x ys p) (is_gt (signed_cmp y x)) where
    go : in_flight sign j (insert x ys) ≡ in_flight sign j ys → (b : Bool) → in_flight sign j (if b then x ∷ y ∷ ys else y ∷ insert x ys) ≡ in_flight sign j (y ∷ ys)
    go rest true = unseen x (y ∷ ys) p
    go rest false = ap (λ zs. if goes sign j y then item_of y ∷ zs else zs) rest

  pub go_insert : (x : Signed) (xs : List Signed) → AllGo sign j xs → goes sign j x ≡ true → AllGo sign j (insert x xs)
  go_insert x xs a p = each_inserted signed_cmp (λ y. goes sign j y ≡ true) x xs p a

  pub go_without : (test : Signed → Bool) (xs : List Signed) → AllGo sign j xs → AllGo sign j (without_where test xs)
  go_without test xs a = each_left (λ y. goes sign j y ≡ true) test xs a

  pub go_remove : (x : Signed) (xs : List Signed) → AllGo sign j xs → AllGo sign j (remove x xs)
  go_remove x xs a = go_without (is_one x) xs a

  pub items_insert : (x : Signed) (xs : List Signed) → IsInOrder xs → Fits x → AllGo sign j xs → goes sign j x ≡ true → items_of (insert x xs) ≡ theory.insert (machine s) (item_of x) (items_of xs)
  items_insert x xs o f a p =
      sym (items_flight (insert x xs) (go_insert x xs a p))
      ∙ insert_there x xs o f p
      ∙ ap (theory.insert (machine s) (item_of x)) (items_flight xs a)

  pub items_remove : (x : Signed) (xs : List Signed) → Each Fits xs → Fits x → AllGo sign j xs → goes sign j x ≡ true → items_of (remove x xs) ≡ theory.remove (machine s) (item_of x) (items_of xs)
  items_remove x [] e f a p = refl
  items_remove x (y ∷ ys) e f a p =
      go (items_remove x ys e.1 f a.1 p) (is_same y x)
      ∙ ap (λ b. cond b (items_of ys) (item_of y ∷ theory.remove (machine s) (item_of x) (items_of ys))) (sym (item_same y x e.0 f a.0 p)) where
        go : items_of (remove x ys) ≡ theory.remove (machine s) (item_of x) (items_of ys) → (b : Bool) → items_of (if b then ys else y ∷ remove x ys) ≡ cond b (items_of ys) (item_of y ∷ theory.remove (machine s) (item_of x) (items_of ys))
        go rest true = refl
        go rest false = ap (λ zs. item_of y ∷ zs) rest

  pub hit_same : (x y : Signed) → Fits x → Fits y → goes sign j x ≡ true → goes sign j y ≡ true → hit (machine s) (item_of x) (rank y.message.key) y.message.action ≡ (if is_same x y then 1 else 0)
  unfolding hit
  hit_same x y f g p q = ap (λ (b : Bool). if b then 1 else 0) (item_same x y f g p q)

  pub items_has : (x : Signed) (xs : List Signed) → Each Fits xs → Fits x → AllGo sign j xs → goes sign j x ≡ true → is_some (first_where (is_one x) xs) ≡ theory.has (machine s) (item_of x) (items_of xs)
  items_has x [] e f a p = refl
  items_has x (y ∷ ys) e f a p =
      go (items_has x ys e.1 f a.1 p) (is_same y x)
      ∙ ap (λ (n : ℕ). nat_lt 0 (n + theory.times (machine s) (items_of ys) (rank x.message.key) x.message.action)) (sym (hit_same y x e.0 f a.0 p)) where
        go : is_some (first_where (is_one x) ys) ≡ theory.has (machine s) (item_of x) (items_of ys) → (b : Bool) → is_some (if b then Some y else first_where (is_one x) ys) ≡ nat_lt 0 ((if b then 1 else 0) + theory.times (machine s) (items_of ys) (rank x.message.key) x.message.action)
        go rest true = sym (lt-ltb 0 (1 + theory.times (machine s) (items_of ys) (rank x.message.key) x.message.action) (omega arith))
        go rest false =
            let plain : theory.times (machine s) (items_of ys) (rank x.message.key) x.message.action ≡ 0 + theory.times (machine s) (items_of ys) (rank x.message.key) x.message.action = omega arith in
            rest ∙ ap (nat_lt 0) plain

  sorted_items : (xs : List Signed) → IsSorted xs → Each Fits xs → AllGo sign j xs → theory.IsSorted (machine s) (items_of xs)
  sorted_items [] r e a = tt
  sorted_items (x ∷ xs) r e a =
      (subst (theory.Each (λ z. theory.comes_first (machine s) (item_of x) z ≡ true)) (items_flight xs a.1) (each_after x xs e.0 a.0 e.1 r.0), sorted_items xs r.1 e.1 a.1)

  pub items_sorted : (xs : List Signed) → IsInOrder xs → AllGo sign j xs → theory.IsSorted (machine s) (items_of xs)
  items_sorted xs o a = sorted_items xs o.sorted o.fits a

pub order_insert : (x : Signed) (xs : List Signed) → IsInOrder xs → Fits x → IsInOrder (insert x xs)
order_insert x xs o f = record { sorted = signed_inserted x xs o.sorted; fits = each_inserted signed_cmp Fits x xs f o.fits }

pub order_without : (test : Signed → Bool) (xs : List Signed) → IsInOrder xs → IsInOrder (without_where test xs)
order_without test xs o = record { sorted = signed_left test xs o.sorted; fits = each_left Fits test xs o.fits }

pub order_remove : (x : Signed) (xs : List Signed) → IsInOrder xs → IsInOrder (remove x xs)
order_remove x xs o = order_without (is_one x) xs o

pub order_tail : (x : Signed) (xs : List Signed) → IsInOrder (x ∷ xs) → IsInOrder xs
order_tail x xs o = record { sorted = o.sorted.1; fits = o.fits.1 }
