-- Lists that stay sorted.
use Rattle.std.proofs.Common.{◌≡◌, refl, sym, ◌∙◌, ap, List, [], ◌∷◌, Bool, true, false, if◌then◌else◌}
use Rattle.std.specs.declared.cmp.Ordering.{Ordering}
use Rattle.std.specs.declared.cmp.Ordering.TheVariants.{Less, Equal, Greater}
use Rattle.std.specs.Ordering.{is_gt, ordering_reverse}
use Rattle.std.specs.Cmp.{IsTotalOrder}
use Rattle.raw_events.specs.Around.{insert_sorted, tail, without_where}
use Rattle.event_keys.specs.declared.message.Signed.{Signed}
use Rattle.event_keys.specs.contracts.message.SignedOrd.TheImpl.Laws.{total-law}
use Rattle.antimessage.specs.Counts.{Each, IsRising, IsSorted, signed_cmp}
use Rattle.antimessage.specs.Order.{Fits, IsInOrder}
use Rattle.antimessage.specs.Bags.{insert, insert_all}

module _ {A : Type 0} where
  -- what holds of each item holds of each that is left
  pub each_left : (P : A → Type 0) (test : A → Bool) (xs : List A) → Each P xs → Each P (without_where test xs)
  each_left P test [] e = e
  each_left P test (x ∷ xs) e =
      elim (test x) as (λ b. Each P (if b then xs else x ∷ without_where test xs)) [
        | true ↦ e.1
        | false ↦ (e.0, each_left P test xs e.1)
      ]

  pub rising_left : (R : A → A → Ordering) (test : A → Bool) (xs : List A) → IsRising R xs → IsRising R (without_where test xs)
  rising_left R test [] r = r
  rising_left R test (x ∷ xs) r =
      elim (test x) as (λ b. IsRising R (if b then xs else x ∷ without_where test xs)) [
        | true ↦ r.1
        | false ↦ (each_left (λ y. is_gt (R x y) ≡ false) test xs r.0, rising_left R test xs r.1)
      ]

  pub each_inserted : (R : A → A → Ordering) (P : A → Type 0) (x : A) (xs : List A) → P x → Each P xs → Each P (insert_sorted R x xs)
  each_inserted R P x [] p e = (p, tt)
  each_inserted R P x (y ∷ ys) p e =
      elim (is_gt (R y x)) as (λ b. Each P (if b then x ∷ y ∷ ys else y ∷ insert_sorted R x ys)) [
        | true ↦ (p, e)
        | false ↦ (e.0, each_inserted R P x ys p e.1)
      ]

  pub each_more : (P Q : A → Type 0) → ((x : A) → P x → Q x) → (xs : List A) → Each P xs → Each Q xs
  each_more P Q f [] e = e
  each_more P Q f (x ∷ xs) e = (f x e.0, each_more P Q f xs e.1)

-- of two orders one way round, where the other way is known
pub turned : (o p : Ordering) → o ≡ ordering_reverse p → is_gt p ≡ true → is_gt o ≡ false
turned o Less e g = cc
turned o Equal e g = cc
turned o Greater e g = ap is_gt e

pub chained : (o p q : Ordering) → is_gt o ≡ false → is_gt p ≡ false → (o ≡ Less → p ≡ Less → q ≡ Less) → (o ≡ Equal → q ≡ p) → (p ≡ Equal → q ≡ o) → is_gt q ≡ false
chained Less Less q a b f g h = ap is_gt (f refl refl)
chained Less Equal q a b f g h = ap is_gt (h refl)
chained Less Greater q a b f g h = cc
chained Equal p q a b f g h = ap is_gt (g refl) ∙ b
chained Greater p q a b f g h = cc

module _ {A : Type 0} (R : A → A → Ordering) (o : IsTotalOrder R) where
  alike : (x y z : A) → R y z ≡ Equal → R x z ≡ R x y
  alike x y z e = o.antisymm x z ∙ ap ordering_reverse (sym (o.congr y z x e)) ∙ sym (o.antisymm x y)

  pub at_most : (x y z : A) → is_gt (R x y) ≡ false → is_gt (R y z) ≡ false → is_gt (R x z) ≡ false
  at_most x y z a b = chained (R x y) (R y z) (R x z) a b (o.trans x y z) (o.congr x y z) (alike x y z)

  pub rising_inserted : (x : A) (xs : List A) → IsRising R xs → IsRising R (insert_sorted R x xs)
  rising_inserted x [] r = (tt, tt)
  rising_inserted x (y ∷ ys) r =
      (elim (is_gt (R y x)) as (λ b. is_gt (R y x) ≡ b → IsRising R (if b then x ∷ y ∷ ys else y ∷ insert_sorted R x ys)) [
        | true ↦ λ g.
            let below : is_gt (R x y) ≡ false = turned (R x y) (R y x) (o.antisymm x y) g in
            ((below, each_more (λ z. is_gt (R y z) ≡ false) (λ z. is_gt (R x z) ≡ false) (λ z. at_most x y z below) ys r.0), r)
        | false ↦ λ g. (each_inserted R (λ z. is_gt (R y z) ≡ false) x ys g r.0, rising_inserted x ys r.1)
      ]) refl

pub signed_total : IsTotalOrder signed_cmp
signed_total = total-law

pub signed_inserted : (x : Signed) (xs : List Signed) → IsSorted xs → IsSorted (insert x xs)
signed_inserted x xs r = rising_inserted signed_cmp signed_total x xs r

pub signed_left : (test : Signed → Bool) (xs : List Signed) → IsSorted xs → IsSorted (without_where test xs)
signed_left test xs r = rising_left signed_cmp test xs r

pub order_inserted : (x : Signed) (xs : List Signed) → Fits x → IsInOrder xs → IsInOrder (insert x xs)
order_inserted x xs p o = record {
  sorted = signed_inserted x xs o.sorted;
  fits = each_inserted signed_cmp Fits x xs p o.fits;
}

pub order_left : (test : Signed → Bool) (xs : List Signed) → IsInOrder xs → IsInOrder (without_where test xs)
order_left test xs o = record {
  sorted = signed_left test xs o.sorted;
  fits = each_left Fits test xs o.fits;
}

pub order_tail : (xs : List Signed) → IsInOrder xs → IsInOrder (tail xs)
order_tail [] o = o
order_tail (x ∷ xs) o = record { sorted = o.sorted.1; fits = o.fits.1 }

pub order_all : (more bag : List Signed) → IsInOrder more → IsInOrder bag → IsInOrder (insert_all more bag)
order_all [] bag p o = o
order_all (x ∷ more) bag p o = order_all more (insert x bag) (record { sorted = p.sorted.1; fits = p.fits.1 }) (order_inserted x bag p.fits.0 o)
