-- What stands at the places of a list, where one was put.
use Rattle.std.proofs.Common.{◌≡◌, ℕ, zero, suc, ◌<◌, Some, List, [], ◌∷◌, ap, length, refl, sym, subst, arith, slice_set}
use Rattle.std.specs.Prelude.{slice_get, Result, Ok, Err, OnOk}

module _ {X : Type 0} where
  same : (x y : X) → Some x ≡ Some y → x ≡ y
  same x y e = cc

  -- what holds at each place holds after one was put for which it holds
  pub in_set : (P : ℕ → X → Type 0) (xs : List X) (n : ℕ) (new : X) → ((j : ℕ) (x : X) → slice_get xs j ≡ Some x → P j x) → P n new → (j : ℕ) (x : X) → slice_get (slice_set xs n new) j ≡ Some x → P j x
  in_set P [] n new all own j x e = all j x e
  in_set P (y ∷ ys) zero new all own zero x e = subst (P 0) (same new x e) own
  in_set P (y ∷ ys) zero new all own (suc j) x e = all (suc j) x e
  in_set P (y ∷ ys) (suc n) new all own zero x e = all 0 x e
  in_set P (y ∷ ys) (suc n) new all own (suc j) x e = in_set (λ k. P (suc k)) ys n new (λ k z. all (suc k) z) own j x e

  -- what was put stands there
  pub at_set : (xs : List X) (n : ℕ) (new x : X) → slice_get (slice_set xs n new) n ≡ Some x → n < length xs → x ≡ new
  at_set [] n new x e within = absurd (omega (arith, within))
  at_set (y ∷ ys) zero new x e within = sym (same new x e)
  at_set (y ∷ ys) (suc n) new x e within = at_set ys n new x e (omega (arith, within))

  -- and the others as they were
  pub apart_set : (xs : List X) (n j : ℕ) (new : X) → (j ≡ n → ⊥) → slice_get (slice_set xs n new) j ≡ slice_get xs j
  apart_set [] n j new apart = refl
  apart_set (y ∷ ys) zero zero new apart = absurd (apart refl)
  apart_set (y ∷ ys) zero (suc j) new apart = refl
  apart_set (y ∷ ys) (suc n) zero new apart = refl
  apart_set (y ∷ ys) (suc n) (suc j) new apart = apart_set ys n j new (λ e. apart (ap suc e))

pub ok_of : {A E P : Type 0} (r : Result A E) → P → OnOk r P
ok_of (Ok a) p = p
ok_of (Err e) p = tt

pub on_ok : {A E P Q : Type 0} (r : Result A E) → (P → Q) → OnOk r P → OnOk r Q
on_ok (Ok a) f p = f p
on_ok (Err e) f p = tt

pub all_ok : {A E P Q R S Z : Type 0} (r : Result A E) → OnOk r P → OnOk r Q → OnOk r R → OnOk r S → (P → Q → R → S → Z) → OnOk r Z
all_ok (Ok a) p q r s f = f p q r s
all_ok (Err e) p q r s f = tt
