-- A message and its antimessage that leave, or that stay.
use Rattle.std.proofs.Common.{◌≡◌, refl, sym, ◌∙◌, ap, subst, ℕ, ◌<◌, List, Bool, true, false, nat_lt, if◌then◌else◌, ◌&&◌, None, Some, arith}
use Rattle.std.proofs.lemmas.Grind.{common_steps}
use Rattle.event_keys.specs.declared.message.Message.{Message}
use Rattle.event_keys.specs.declared.message.Signed.{Signed}
use Rattle.antimessage.specs.Order.{IsInOrder}
use Rattle.antimessage.specs.Counts.{IsSorted, signed_cmp, is_same, plus, minus, count}
use Rattle.antimessage.proofs.Counting.{counted_inserted, counted_left, counted_none, left_same, passes, same_counts, signed_decides}
use Rattle.raw_events.specs.Around.{first_where}
use Rattle.antimessage.specs.Bags.{insert, is_one, remove, has_pair, met}
use Rattle.antimessage.proofs.Sorted.{signed_inserted, signed_left, order_left}
use Rattle.antimessage.proofs.Meeting.{one_minus}

and_false : (a : Bool) → a && false ≡ false
and_false true = refl
and_false false = refl

no_right : (a b : ℕ) → b ≡ 0 → nat_lt 0 a && nat_lt 0 b ≡ false
no_right a b e = subst (λ n. nat_lt 0 a && nat_lt 0 n ≡ false) (sym e) (and_false (nat_lt 0 a))

no_left : (a b : ℕ) → a ≡ 0 → nat_lt 0 a && nat_lt 0 b ≡ false
no_left a b e = subst (λ n. nat_lt 0 n && nat_lt 0 b ≡ false) (sym e) refl

both : (a b : ℕ) → 0 < a → 0 < b → nat_lt 0 a && nat_lt 0 b ≡ true
both a b x y = grind (arith, common_steps)

abbrev pub both_left : Message → List Signed → List Signed
both_left m bag = remove (plus m) (remove (minus m) bag)

pub stays : (m : Message) (bag : List Signed) → has_pair m bag ≡ false → met m bag ≡ bag
stays m bag e = ap (λ (b : Bool). if b then both_left m bag else bag) e

pub leaves : (m : Message) (bag : List Signed) → has_pair m bag ≡ true → met m bag ≡ both_left m bag
leaves m bag e = ap (λ (b : Bool). if b then both_left m bag else bag) e

pub met_order : (m : Message) (bag : List Signed) → IsInOrder bag → IsInOrder (met m bag)
met_order m bag o =
    elim (has_pair m bag) as (λ b. IsInOrder (if b then both_left m bag else bag)) [
      | true ↦ order_left (is_one (plus m)) (remove (minus m) bag) (order_left (is_one (minus m)) bag o)
      | false ↦ o
    ]

-- what was taken goes back to its place
put_back : (x y : Signed) (bag : List Signed) → IsSorted bag → first_where (is_one x) bag ≡ Some y → insert y (remove x bag) ≡ bag
put_back x y bag r e =
    same_counts (insert y (remove x bag)) bag (signed_inserted y (remove x bag) (signed_left (is_one x) bag r)) r
    (λ z. counted_inserted is_same signed_cmp z y (remove x bag) ∙ sym (counted_left is_same (is_one x) z y bag e))

pub taken_is : (x y : Signed) (bag : List Signed) → first_where (is_one x) bag ≡ Some y → y ≡ x
taken_is x y bag e = (signed_decides y x).0 (passes is_same (is_one x) y bag e)

there : (x y : Signed) (bag : List Signed) → first_where (is_one x) bag ≡ Some y → 0 < count x bag
there x y bag e =
    let one : is_same y x ≡ true = passes is_same (is_one x) y bag e in
    let weight : ◌≡◌ {A = ℕ} (if is_same y x then 1 else 0) 1 = ap (λ (b : Bool). if b then 1 else 0) one in
    omega (arith, weight, counted_left is_same (is_one x) x y bag e)

same_pluses : (m : Message) (y : Signed) (bag : List Signed) → first_where (is_one (minus m)) bag ≡ Some y → count (plus m) bag ≡ count (plus m) (remove (minus m) bag)
same_pluses m y bag e =
    let weight : ◌≡◌ {A = ℕ} (if is_same y (plus m) then 1 else 0) 0 =
    ap (λ w. if is_same w (plus m) then 1 else 0) (taken_is (minus m) y bag e) ∙ one_minus m m in
    omega (arith, weight, counted_left is_same (is_one (minus m)) (plus m) y bag e)

-- no antimessage
pub none_there : (m : Message) (bag : List Signed) → first_where (is_one (minus m)) bag ≡ None → (has_pair m bag ≡ false) × (remove (minus m) bag ≡ met m bag)
none_there m bag e =
    let no : has_pair m bag ≡ false = no_right (count (plus m) bag) (count (minus m) bag) (counted_none is_same (minus m) bag e) in
    (no, left_same is_same (is_one (minus m)) bag e ∙ sym (stays m bag no))

-- an antimessage, and no message
pub one_there : (m : Message) (y : Signed) (bag : List Signed) → IsSorted bag → first_where (is_one (minus m)) bag ≡ Some y → first_where (is_one (plus m)) (remove (minus m) bag) ≡ None
    → (has_pair m bag ≡ false) × (insert y (both_left m bag) ≡ met m bag)
one_there m y bag r e f =
    let no : has_pair m bag ≡ false =
    no_left (count (plus m) bag) (count (minus m) bag) (same_pluses m y bag e ∙ counted_none is_same (plus m) (remove (minus m) bag) f) in
    (no, ap (insert y) (left_same is_same (is_one (plus m)) (remove (minus m) bag) f) ∙ put_back (minus m) y bag r e ∙ sym (stays m bag no))

-- both
pub both_there : (m : Message) (y z : Signed) (bag : List Signed) → first_where (is_one (minus m)) bag ≡ Some y → first_where (is_one (plus m)) (remove (minus m) bag) ≡ Some z
    → (has_pair m bag ≡ true) × (both_left m bag ≡ met m bag)
both_there m y z bag e f =
    let pluses : 0 < count (plus m) bag = omega (arith, same_pluses m y bag e, there (plus m) z (remove (minus m) bag) f) in
    let yes : has_pair m bag ≡ true = both (count (plus m) bag) (count (minus m) bag) pluses (there (minus m) y bag e) in
    (yes, sym (leaves m bag yes))
