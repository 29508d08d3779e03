-- Items in their places.
use Rattle.std.proofs.Common.{◌≡◌, ℕ, zero, suc, List, [], ◌∷◌, ◌<◌, ◌≤◌, None, Some, refl, ap, arith}
use Rattle.std.specs.Prelude.{length, slice_get, slice_set}

pub get_same : {X : Type 0} (xs : List X) (n : ℕ) (x : X) → n < length xs → slice_get (slice_set xs n x) n ≡ Some x
get_same [] n x h = absurd (omega (arith, h))
get_same (y ∷ ys) zero x h = refl
get_same (y ∷ ys) (suc n) x h = get_same ys n x (omega (arith, h))

pub get_other : {X : Type 0} (xs : List X) (n : ℕ) (x : X) (j : ℕ) → (j ≡ n → ⊥) → slice_get (slice_set xs n x) j ≡ slice_get xs j
get_other [] n x j ne = refl
get_other (y ∷ ys) zero x zero ne = absurd (ne refl)
get_other (y ∷ ys) zero x (suc j) ne = refl
get_other (y ∷ ys) (suc n) x zero ne = refl
get_other (y ∷ ys) (suc n) x (suc j) ne = get_other ys n x j (λ e. ne (ap suc e))

pub slice_set-length : {X : Type 0} (xs : List X) (n : ℕ) (x : X) → length (slice_set xs n x) ≡ length xs
slice_set-length [] n x = refl
slice_set-length (y ∷ ys) zero x = refl
slice_set-length (y ∷ ys) (suc n) x = ap suc (slice_set-length ys n x)

pub get_none : {X : Type 0} (xs : List X) (j : ℕ) → slice_get xs j ≡ None → length xs ≤ j
get_none [] j e = omega arith
get_none (x ∷ xs) zero e = cc
get_none (x ∷ xs) (suc j) e = let rest = get_none xs j e in omega (arith, rest)

pub get_there : {X : Type 0} (xs : List X) (j : ℕ) → j < length xs → (x : X) × (slice_get xs j ≡ Some x)
get_there [] j h = absurd (omega (arith, h))
get_there (x ∷ xs) zero h = (x, refl)
get_there (x ∷ xs) (suc j) h = get_there xs j (omega (arith, h))

pub one_some : {X : Type 0} (a b : X) → Some a ≡ Some b → a ≡ b
one_some a b e = cc

pub none_some : {X : Type 0} (b : X) → None ≡ Some b → ⊥
none_some b e = cc
