-- What the counts of a bag tell of it.
use Rattle.std.proofs.Common.{◌≡◌, refl, sym, ◌∙◌, ap, subst, ℕ, ◌+◌, ◌<◌, List, [], ◌∷◌, Bool, true, false, if◌then◌else◌, None, Some, arith, rules}
use Rattle.std.specs.declared.cmp.Ordering.{Ordering}
use Rattle.std.specs.declared.cmp.Ordering.TheVariants.{Less, Equal, Greater}
use Rattle.std.specs.Ordering.{is_gt, is_eq, ordering_reverse}
use Rattle.std.specs.Cmp.{IsTotalOrder, Equal-is, tied_itself}
use Rattle.std.specs.Bool.{Decides}
use Rattle.raw_events.specs.Around.{insert_sorted, first_where, without_where}
use Rattle.event_keys.specs.declared.message.Signed.{Signed}
use Rattle.event_keys.specs.contracts.message.SignedOrd.TheImpl.Laws.{total-law, matches_eq-law}
use Rattle.event_keys.specs.Orders.{signed_order}
use Rattle.event_keys.specs.Apart.{signed_apart}
use Rattle.antimessage.specs.Counts.{Each, IsRising, IsSorted, signed_cmp, is_same, count_equal, count}

-- two orders, one the other way round, neither of which is greater
both_ways : (o p : Ordering) → o ≡ ordering_reverse p → is_gt o ≡ false → is_gt p ≡ false → o ≡ Equal
both_ways Less Less e a b = cc
both_ways Less Equal e a b = cc
both_ways Less Greater e a b = cc
both_ways Equal p e a b = refl
both_ways Greater p e a b = cc

module _ {A : Type 0} (E : A → A → Bool) where
  -- an insertion adds one to one count
  pub counted_inserted : (R : A → A → Ordering) (x y : A) (xs : List A) → count_equal E x (insert_sorted R y xs) ≡ (if E y x then 1 else 0) + count_equal E x xs
  counted_inserted R x y [] = refl
  counted_inserted R x y (z ∷ xs) =
      elim (is_gt (R z y)) as (λ b. count_equal E x (if b then y ∷ z ∷ xs else z ∷ insert_sorted R y xs) ≡ (if E y x then 1 else 0) + count_equal E x (z ∷ xs)) [
        | true ↦ refl
        | false ↦ omega (arith, counted_inserted R x y xs)
      ]

  -- what is taken is one less
  pub counted_left : (test : A → Bool) (x y : A) (xs : List A) → first_where test xs ≡ Some y → count_equal E x xs ≡ (if E y x then 1 else 0) + count_equal E x (without_where test xs)
  counted_left test x y [] e = cc
  counted_left test x y (z ∷ xs) e =
      (elim (test z) as (λ b. (if b then Some z else first_where test xs) ≡ Some y → count_equal E x (z ∷ xs) ≡ (if E y x then 1 else 0) + count_equal E x (if b then xs else z ∷ without_where test xs)) [
        | true ↦ λ f. let same : z ≡ y = cc in ap (λ w. (if E w x then 1 else 0) + count_equal E x xs) same
        | false ↦ λ f. omega (arith, counted_left test x y xs f)
      ]) e

  pub counted_none : (x : A) (xs : List A) → first_where (λ y. E y x) xs ≡ None → count_equal E x xs ≡ 0
  counted_none x [] e = refl
  counted_none x (z ∷ xs) e =
      (elim (E z x) as (λ b. (if b then Some z else first_where (λ y. E y x) xs) ≡ None → (if b then 1 else 0) + count_equal E x xs ≡ 0) [
        | true ↦ λ f. cc
        | false ↦ λ f. omega (arith, counted_none x xs f)
      ]) e

  -- what is taken passes the test
  pub passes : (test : A → Bool) (y : A) (xs : List A) → first_where test xs ≡ Some y → test y ≡ true
  passes test y [] e = cc
  passes test y (z ∷ xs) e =
      (elim (test z) as (λ b. test z ≡ b → (if b then Some z else first_where test xs) ≡ Some y → test y ≡ true) [
        | true ↦ λ t f. let same : z ≡ y = cc in subst (λ w. test w ≡ true) same t
        | false ↦ λ t f. passes test y xs f
      ]) refl e

  -- where nothing is taken nothing leaves
  pub left_same : (test : A → Bool) (xs : List A) → first_where test xs ≡ None → without_where test xs ≡ xs
  left_same test [] e = refl
  left_same test (z ∷ xs) e =
      (elim (test z) as (λ b. (if b then Some z else first_where test xs) ≡ None → (if b then xs else z ∷ without_where test xs) ≡ z ∷ xs) [
        | true ↦ λ f. cc
        | false ↦ λ f. ap (λ zs. z ∷ zs) (left_same test xs f)
      ]) e

module _ {A : Type 0} (E : A → A → Bool) (decides : (x y : A) → Decides (E x y) (x ≡ y)) where
  -- what holds of each item holds of one that is there
  pub counted_each : (P : A → Type 0) (x : A) (xs : List A) → 0 < count_equal E x xs → Each P xs → P x
  counted_each P x [] c e = absurd (omega arith)
  counted_each P x (y ∷ ys) c e =
      (elim (E y x) as (λ b. E y x ≡ b → 0 < (if b then 1 else 0) + count_equal E x ys → P x) [
        | true ↦ λ t d. subst P ((decides y x).0 t) e.0
        | false ↦ λ t d. counted_each P x ys (omega arith) e.1
      ]) refl c

  pub counted_first : (x : A) (xs : List A) → 0 < count_equal E x (x ∷ xs)
  counted_first x xs =
      let one : E x x ≡ true = (decides x x).1 refl in
      subst (λ b. 0 < (if b then 1 else 0) + count_equal E x xs) (sym one) (omega arith)

  module _ (R : A → A → Ordering) (o : IsTotalOrder R) (apart : (x y : A) → R x y ≡ Equal → x ≡ y) where
    -- of two items neither of which is greater
    pub level : (x y : A) → is_gt (R x y) ≡ false → is_gt (R y x) ≡ false → x ≡ y
    level x y a b = apart x y (both_ways (R x y) (R y x) (o.antisymm x y) a b)

    itself : (x : A) → is_gt (R x x) ≡ false
    itself x = ap is_gt (tied_itself o x)

    from_first : (x y : A) (ys : List A) → IsRising R (y ∷ ys) → 0 < count_equal E x (y ∷ ys) → is_gt (R y x) ≡ false
    from_first x y ys r c = counted_each (λ z. is_gt (R y z) ≡ false) x (y ∷ ys) c (itself y, r.0)

    -- sorted lists with the same counts are the same
    pub counted_same : (xs ys : List A) → IsRising R xs → IsRising R ys → ((x : A) → count_equal E x xs ≡ count_equal E x ys) → xs ≡ ys
    counted_same [] [] r s same = refl
    counted_same [] (y ∷ ys) r s same = absurd (omega (arith, counted_first y ys, same y))
    counted_same (x ∷ xs) [] r s same = absurd (omega (arith, counted_first x xs, same x))
    counted_same (x ∷ xs) (y ∷ ys) r s same =
        let x_there : 0 < count_equal E x (y ∷ ys) = omega (arith, counted_first x xs, same x) in
        let y_there : 0 < count_equal E y (x ∷ xs) = omega (arith, counted_first y ys, same y) in
        let first : x ≡ y = level x y (from_first y x xs r y_there) (from_first x y ys s x_there) in
        let rest : xs ≡ ys = counted_same xs ys r.1 s.1 (λ z.
        let one : ◌≡◌ {A = ℕ} (if E x z then 1 else 0) (if E y z then 1 else 0) = ap (λ w. if E w z then 1 else 0) first in
        omega (arith, same z, one)) in
        λ i. first i ∷ rest i

-- signed messages that the order doesn't tell apart are the same
pub signed_level : (x y : Signed) → signed_cmp x y ≡ Equal → x ≡ y
signed_level x y e =
    let order : signed_cmp x y ≡ signed_order x y = search rules in
    signed_apart x y (sym order ∙ e)

-- equal signed messages are the same
pub signed_decides : (x y : Signed) → Decides (is_same x y) (x ≡ y)
signed_decides x y =
    let agrees : is_same x y ≡ is_eq (signed_cmp x y) = matches_eq-law x y in
    (λ e. signed_level x y ((Equal-is (signed_cmp x y)).0 (sym agrees ∙ e)), λ e. agrees ∙ ap is_eq (ap (signed_cmp x) (sym e) ∙ tied_itself total-law x))

pub same_counts : (xs ys : List Signed) → IsSorted xs → IsSorted ys → ((x : Signed) → count x xs ≡ count x ys) → xs ≡ ys
same_counts xs ys r s same = counted_same is_same signed_decides signed_cmp total-law signed_level xs ys r s same
