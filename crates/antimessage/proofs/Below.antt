-- Messages below a bound stand first in a sorted list.
use Rattle.std.proofs.Common.{◌≡◌, refl, sym, ◌∙◌, ap, List, [], ◌∷◌, filter, Bool, true, false, true≢false, not, if◌then◌else◌, arith}
use Rattle.std.specs.declared.cmp.Ordering.{Ordering}
use Rattle.std.specs.declared.cmp.Ordering.TheVariants.{Less, Equal, Greater}
use Rattle.std.specs.Ordering.{is_gt, is_lt}
use Rattle.std.specs.Cmp.{IsTotalOrder}
use Rattle.event_keys.specs.declared.key.Key.{Key}
use Rattle.event_keys.specs.declared.key.Bound.{Bound}
use Rattle.event_keys.specs.declared.key.Bound.TheVariants.{At, End}
use Rattle.event_keys.specs.declared.message.Signed.{Signed}
use Rattle.event_keys.specs.Orders.{bound_order, key_order}
use Rattle.event_keys.specs.contracts.key.KeyOrd.TheImpl.Laws.{total-law as key_total-law}
use Rattle.raw_events.specs.Around.{tail}
use Rattle.antimessage.specs.Counts.{Each, IsRising, IsSorted, signed_cmp, count}
use Rattle.antimessage.specs.Order.{Fits, IsInOrder}
use Rattle.antimessage.specs.Bags.{first_is_below, is_below, without_below}
use Rattle.antimessage.proofs.Effects.{first_part}
use Rattle.antimessage.proofs.Meeting.{one_no, one_of, unlike}
use Rattle.antimessage.proofs.Sorted.{each_more}

module _ {A : Type 0} (test : A → Bool) where
  pub each_filtered : (P : A → Type 0) (xs : List A) → Each P xs → Each P (filter test xs)
  each_filtered P [] e = e
  each_filtered P (x ∷ xs) e =
      elim (test x) as (λ b. Each P (if b then x ∷ filter test xs else filter test xs)) [
        | true ↦ (e.0, each_filtered P xs e.1)
        | false ↦ each_filtered P xs e.1
      ]

  pub rising_filtered : (R : A → A → Ordering) (xs : List A) → IsRising R xs → IsRising R (filter test xs)
  rising_filtered R [] r = r
  rising_filtered R (x ∷ xs) r =
      elim (test x) as (λ b. IsRising R (if b then x ∷ filter test xs else filter test xs)) [
        | true ↦ (each_filtered (λ y. is_gt (R x y) ≡ false) xs r.0, rising_filtered R xs r.1)
        | false ↦ rising_filtered R xs r.1
      ]

  -- where the test passes at each item all stay
  pub all_pass : (xs : List A) → Each (λ x. test x ≡ true) xs → filter test xs ≡ xs
  all_pass [] e = refl
  all_pass (x ∷ xs) e = rw (e.0, all_pass xs e.1)

pub order_filtered : (test : Signed → Bool) (bag : List Signed) → IsInOrder bag → IsInOrder (filter test bag)
order_filtered test bag o = record {
  sorted = rising_filtered test signed_cmp bag o.sorted;
  fits = each_filtered test Fits bag o.fits;
}

pub order_from : (bound : Bound) (bag : List Signed) → IsInOrder bag → IsInOrder (without_below bound bag)
order_from bound = order_filtered (λ s. not (is_below bound s))

-- keys in order, the second before a third: so is the first
less_chained : (o p q : Ordering) → is_gt o ≡ false → is_lt p ≡ true → (o ≡ Less → p ≡ Less → q ≡ Less) → (o ≡ Equal → q ≡ p) → is_lt q ≡ true
less_chained Less Less q a b f g = ap is_lt (f refl refl)
less_chained Less Equal q a b f g = cc
less_chained Less Greater q a b f g = cc
less_chained Equal p q a b f g = ap is_lt (g refl) ∙ b
less_chained Greater p q a b f g = cc

key_total : IsTotalOrder key_order
key_total = key_total-law

key_below : (a b : Key) (bound : Bound) → is_gt (key_order a b) ≡ false → is_lt (bound_order (At b) bound) ≡ true → is_lt (bound_order (At a) bound) ≡ true
key_below a b (At k) e l = less_chained (key_order a b) (key_order b k) (key_order a k) e l (key_total.trans a b k) (key_total.congr a b k)
key_below a b End e l = refl

-- what is not less than a message that isn't below the bound isn't either
stays_from : (bound : Bound) (x y : Signed) → is_below bound x ≡ false → is_gt (signed_cmp x y) ≡ false → not (is_below bound y) ≡ true
stays_from bound x y n e =
    (elim (is_below bound y) as (λ b. is_below bound y ≡ b → not b ≡ true) [
      | true ↦ λ l. absurd (true≢false (sym (key_below x.message.key y.message.key bound (first_part _ _ (first_part _ _ e)) l) ∙ n))
      | false ↦ λ l. refl
    ]) refl

-- where the walk that drops stands
pub record IsDropping (bound : Bound) (old after : List Signed) : Type 0 where
  pub left : without_below bound after ≡ without_below bound old
  pub rising : IsSorted after

pub dropping_starts : (bound : Bound) (old : List Signed) → IsSorted old → IsDropping bound old old
dropping_starts bound old r = record { left = refl; rising = r }

pub dropping_drops : (bound : Bound) (old after : List Signed) → first_is_below bound after ≡ true → IsDropping bound old after → IsDropping bound old (tail after)
dropping_drops bound old [] e k = absurd (true≢false (sym e))
dropping_drops bound old (s ∷ after) e k =
    let gone : without_below bound (s ∷ after) ≡ without_below bound after = ap (λ (b : Bool). if not b then s ∷ without_below bound after else without_below bound after) e in
    record { left = sym gone ∙ k.left; rising = k.rising.1 }

pub dropping_ends : (bound : Bound) (old after : List Signed) → first_is_below bound after ≡ false → IsDropping bound old after → after ≡ without_below bound old
dropping_ends bound old [] e k = k.left
dropping_ends bound old (s ∷ after) e k =
    let first : not (is_below bound s) ≡ true = ap not e in
    let others : Each (λ y. not (is_below bound y) ≡ true) after = each_more (λ y. is_gt (signed_cmp s y) ≡ false) (λ y. not (is_below bound y) ≡ true) (λ y. stays_from bound s y e) after k.rising.0 in
    sym (all_pass (λ y. not (is_below bound y)) (s ∷ after) (first, others)) ∙ k.left

-- what passes a test stays as often as it was, and nothing stays that doesn't
pub count_kept : (test : Signed → Bool) (x : Signed) (bag : List Signed) → test x ≡ true → count x (filter test bag) ≡ count x bag
count_kept test x [] e = refl
count_kept test x (s ∷ bag) e =
    (elim (test s) as (λ b. test s ≡ b → count x (if b then s ∷ filter test bag else filter test bag) ≡ count x (s ∷ bag)) [
      | true ↦ λ t. omega (arith, count_kept test x bag e)
      | false ↦ λ t.
          let other : one_of s x ≡ 0 = one_no s x (unlike s x (λ f. true≢false (sym e ∙ ap test (sym f) ∙ t))) in
          omega (arith, other, count_kept test x bag e)
    ]) refl

pub count_dropped : (test : Signed → Bool) (x : Signed) (bag : List Signed) → test x ≡ false → count x (filter test bag) ≡ 0
count_dropped test x [] e = refl
count_dropped test x (s ∷ bag) e =
    (elim (test s) as (λ b. test s ≡ b → count x (if b then s ∷ filter test bag else filter test bag) ≡ 0) [
      | true ↦ λ t.
          let other : one_of s x ≡ 0 = one_no s x (unlike s x (λ f. true≢false (sym t ∙ ap test f ∙ e))) in
          omega (arith, other, count_dropped test x bag e)
      | false ↦ λ t. count_dropped test x bag e
    ]) refl
