-- In a list in order nothing equal stands where the first is greater.
use Rattle.std.proofs.Common.{◌≡◌, Bool, true, false, None, Some, List, [], ◌∷◌, refl, ap, subst, sym, ◌∙◌, if◌then◌else◌}
use Rattle.std.specs.Ordering.{is_gt}
use Rattle.std.specs.Cmp.{tied_itself}
use Rattle.event_keys.specs.declared.message.Signed.{Signed}
use Rattle.raw_events.specs.Around.{first_where}
use Rattle.antimessage.specs.Bags.{is_one, remove}
use Rattle.antimessage.specs.Counts.{Each, signed_cmp}
use Rattle.antimessage.specs.Order.{IsInOrder}
use Rattle.antimessage.proofs.Counting.{signed_decides}
use Rattle.antimessage.proofs.Sorted.{signed_total}
use Rattle.rollback.specs.ComponentInvariant.{is_first_greater}

none_by : (x y : Signed) (ys : List Signed) → is_gt (signed_cmp y x) ≡ true → Each (λ z. is_gt (signed_cmp y z) ≡ false) ys → (first_where (is_one x) ys ≡ None) × (remove x ys ≡ ys)
none_by x y [] h e = (refl, refl)
none_by x y (z ∷ zs) h e = go (none_by x y zs h e.1) (is_one x z) refl
  where
    go : (first_where (is_one x) zs ≡ None) × (remove x zs ≡ zs) → (b : Bool) → is_one x z ≡ b → ((if b then Some z else first_where (is_one x) zs) ≡ None) × ((if b then zs else z ∷ remove x zs) ≡ z ∷ zs)
    go rest true f =
        let same : z ≡ x = (signed_decides z x).0 f in
        let less : is_gt (signed_cmp y x) ≡ false = subst (λ (w : Signed). is_gt (signed_cmp y w) ≡ false) same e.0 in
        let never : ◌≡◌ {A = Bool} true false = sym h ∙ less in
        cc
    go rest false f = (rest.0, ap (λ l. z ∷ l) rest.1)

nothing_equal : (x : Signed) (xs : List Signed) → IsInOrder xs → is_first_greater x xs ≡ true → (first_where (is_one x) xs ≡ None) × (remove x xs ≡ xs)
nothing_equal x [] order h = cc
nothing_equal x (y ∷ ys) order h = none_by x y (y ∷ ys) h (ap is_gt (tied_itself signed_total y), order.sorted.0)

pub none_there : (x : Signed) (xs : List Signed) → IsInOrder xs → is_first_greater x xs ≡ true → first_where (is_one x) xs ≡ None
none_there x xs order h = (nothing_equal x xs order h).0

pub none_removed : (x : Signed) (xs : List Signed) → IsInOrder xs → is_first_greater x xs ≡ true → remove x xs ≡ xs
none_removed x xs order h = (nothing_equal x xs order h).1
