-- What the calls do to counts.
use Rattle.std.proofs.Common.{◌≡◌, refl, sym, ◌∙◌, ap, subst, ℕ, ◌+◌, ◌<◌, List, [], ◌∷◌, Bool, true, false, true≢false, nat_lt, if◌then◌else◌, ◌&&◌, None, Some, arith}
use Rattle.std.specs.declared.cmp.Ordering.{Ordering}
use Rattle.std.specs.declared.cmp.Ordering.TheVariants.{Less, Equal, Greater}
use Rattle.std.specs.Ordering.{is_gt, ordering_then}
use Rattle.std.specs.Cmp.{tied_itself}
use Rattle.std.specs.Cmp.Lexicographic.{pointwise, pointwise_decides}
use Rattle.std.specs.Bool.{Decides}
use Rattle.event_keys.specs.declared.message.Message.{Message}
use Rattle.event_keys.specs.declared.message.Signed.{Signed}
use Rattle.event_keys.specs.declared.key.Bound.TheVariants.{At}
use Rattle.event_keys.specs.contracts.message.SignedOrd.TheImpl.Laws.{total-law}
use Rattle.event_keys.specs.Orders.{bound_order}
use Rattle.antimessage.specs.Counts.{Each, IsSorted, signed_cmp, is_same, plus, minus, count}
use Rattle.antimessage.proofs.Counting.{counted_inserted, counted_left, counted_none, left_same, signed_decides}
use Rattle.raw_events.specs.Around.{first_where, without_where}
use Rattle.antimessage.specs.Bags.{insert, is_one, remove, has_pair, met, least_of}
use Rattle.antimessage.proofs.Sorted.{each_more}
use borrow.Author.Tests.{ltb-true}
use Rattle.antimessage.proofs.Meeting.{both_true, one_of, one_no, unlike, one_minus}
use Rattle.antimessage.proofs.Pairs.{both_left, leaves, taken_is}

one_itself : (x : Signed) → one_of x x ≡ 1
one_itself x = ap (λ (b : Bool). if b then 1 else 0) ((signed_decides x x).1 refl)

one_other : (y x : Signed) → (x ≡ y → ⊥) → one_of y x ≡ 0
one_other y x f = one_no y x (unlike y x (λ e. f (sym e)))

pub post_more : (s : Signed) (bag : List Signed) → count s (insert s bag) ≡ count s bag + 1
post_more s bag = omega (arith, counted_inserted is_same signed_cmp s s bag, one_itself s)

pub post_others : (x s : Signed) (bag : List Signed) → (x ≡ s → ⊥) → count x (insert s bag) ≡ count x bag
post_others x s bag f = omega (arith, counted_inserted is_same signed_cmp x s bag, one_other s x f)

pub take_less : (test : Signed → Bool) (s : Signed) (bag : List Signed) → first_where test bag ≡ Some s → count s bag ≡ count s (without_where test bag) + 1
take_less test s bag e = omega (arith, counted_left is_same test s s bag e, one_itself s)

pub take_others : (test : Signed → Bool) (x s : Signed) (bag : List Signed) → first_where test bag ≡ Some s → (x ≡ s → ⊥) → count x (without_where test bag) ≡ count x bag
take_others test x s bag e f = omega (arith, counted_left is_same test x s bag e, one_other s x f)

pub take_least : (test : Signed → Bool) (s : Signed) (bag : List Signed) → IsSorted bag → first_where test bag ≡ Some s → Each (λ y. test y ≡ true → is_gt (signed_cmp s y) ≡ false) bag
take_least test s [] r e = tt
take_least test s (x ∷ bag) r e =
    (elim (test x) as (λ b. test x ≡ b → (if b then Some x else first_where test bag) ≡ Some s → Each (λ y. test y ≡ true → is_gt (signed_cmp s y) ≡ false) (x ∷ bag)) [
      | true ↦ λ t f.
          let same : x ≡ s = cc in
          subst (λ w. Each (λ y. test y ≡ true → is_gt (signed_cmp w y) ≡ false) (x ∷ bag)) same
          ((λ u. ap is_gt (tied_itself total-law x)), each_more (λ y. is_gt (signed_cmp x y) ≡ false) (λ y. test y ≡ true → is_gt (signed_cmp x y) ≡ false) (λ y g u. g) bag r.0)
      | false ↦ λ t f. ((λ u. absurd (true≢false (sym u ∙ t))), take_least test s bag r.1 f)
    ]) refl e

pub take_none : (test : Signed → Bool) (bag : List Signed) → first_where test bag ≡ None → Each (λ y. test y ≡ false) bag
take_none test [] e = tt
take_none test (x ∷ bag) e =
    (elim (test x) as (λ b. test x ≡ b → (if b then Some x else first_where test bag) ≡ None → Each (λ y. test y ≡ false) (x ∷ bag)) [
      | true ↦ λ t f. cc
      | false ↦ λ t f. (t, take_none test bag f)
    ]) refl e

-- one less of x, where it is there
less_itself : (x : Signed) (bag : List Signed) → 0 < count x bag → count x bag ≡ count x (remove x bag) + 1
less_itself x bag c =
    (elim (first_where (is_one x) bag) as (λ o. first_where (is_one x) bag ≡ o → count x bag ≡ count x (remove x bag) + 1) [
      | None ↦ λ e. absurd (omega (arith, counted_none is_same x bag e))
      | Some s ↦ λ e.
          let weight : one_of s x ≡ 1 = ap (λ w. one_of w x) (taken_is x s bag e) ∙ one_itself x in
          omega (arith, weight, counted_left is_same (is_one x) x s bag e)
    ]) refl

less_other : (y x : Signed) (bag : List Signed) → (x ≡ y → ⊥) → count x (remove y bag) ≡ count x bag
less_other y x bag f =
    (elim (first_where (is_one y) bag) as (λ o. first_where (is_one y) bag ≡ o → count x (remove y bag) ≡ count x bag) [
      | None ↦ λ e. ap (count x) (left_same is_same (is_one y) bag e)
      | Some s ↦ λ e.
          let weight : one_of s x ≡ 0 = ap (λ w. one_of w x) (taken_is y s bag e) ∙ one_other y x f in
          omega (arith, weight, counted_left is_same (is_one y) x s bag e)
    ]) refl

two_true : (a b : ℕ) → nat_lt 0 a && nat_lt 0 b ≡ true → (0 < a) × (0 < b)
two_true a b e =
    let parts : (nat_lt 0 a ≡ true) × (nat_lt 0 b ≡ true) = both_true (nat_lt 0 a) (nat_lt 0 b) e in
    (ltb-true 0 a parts.0, ltb-true 0 b parts.1)

apart_signs : (m : Message) → plus m ≡ minus m → ⊥
apart_signs m e = absurd (omega (arith, one_minus m m, ap (λ w. one_of w (plus m)) (sym e), one_itself (plus m)))

pub meet_pluses : (m : Message) (bag : List Signed) → has_pair m bag ≡ true → count (plus m) bag ≡ count (plus m) (met m bag) + 1
meet_pluses m bag e =
    let pluses : 0 < count (plus m) bag = (two_true (count (plus m) bag) (count (minus m) bag) e).0 in
    let same : count (plus m) (remove (minus m) bag) ≡ count (plus m) bag = less_other (minus m) (plus m) bag (apart_signs m) in
    sym same ∙ less_itself (plus m) (remove (minus m) bag) (subst (λ n. 0 < n) (sym same) pluses) ∙ ap (λ (zs : List Signed). count (plus m) zs + 1) (sym (leaves m bag e))

pub meet_minuses : (m : Message) (bag : List Signed) → has_pair m bag ≡ true → count (minus m) bag ≡ count (minus m) (met m bag) + 1
meet_minuses m bag e =
    let minuses : 0 < count (minus m) bag = (two_true (count (plus m) bag) (count (minus m) bag) e).1 in
    less_itself (minus m) bag minuses ∙ ap (λ n. n + 1) (sym (less_other (plus m) (minus m) (remove (minus m) bag) (λ p. apart_signs m (sym p)))) ∙ ap (λ (zs : List Signed). count (minus m) zs + 1) (sym (leaves m bag e))

pub meet_others : (x : Signed) (m : Message) (bag : List Signed) → (x ≡ plus m → ⊥) → (x ≡ minus m → ⊥) → count x (met m bag) ≡ count x bag
meet_others x m bag f g =
    elim (has_pair m bag) as (λ b. count x (if b then both_left m bag else bag) ≡ count x bag) [
      | true ↦ less_other (plus m) x (remove (minus m) bag) f ∙ less_other (minus m) x bag g
      | false ↦ refl
    ]

-- an order by parts is not Greater where its first part is
pub first_part : (o p : Ordering) → is_gt (ordering_then o p) ≡ false → is_gt o ≡ false
first_part Less p e = refl
first_part Equal p e = refl
first_part Greater p e = e

key_at_most : (x y : Signed) → is_gt (signed_cmp x y) ≡ false → is_gt (bound_order (At x.message.key) (At y.message.key)) ≡ false
key_at_most x y e = first_part _ _ (first_part _ _ e)

pub least_is : (bag : List Signed) → IsSorted bag → Each (λ s. is_gt (bound_order (least_of bag) (At s.message.key)) ≡ false) bag
least_is [] r = tt
least_is (x ∷ bag) r =
    (key_at_most x x (ap is_gt (tied_itself total-law x)), each_more (λ y. is_gt (signed_cmp x y) ≡ false) (λ y. is_gt (bound_order (At x.message.key) (At y.message.key)) ≡ false) (λ y. key_at_most x y) bag r.0)

pub bags_decide : (xs ys : List Signed) → Decides (pointwise is_same xs ys) (xs ≡ ys)
bags_decide = pointwise_decides signed_decides
