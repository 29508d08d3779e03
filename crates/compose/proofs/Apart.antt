-- Lists of which no two items pass a test together.
use Rattle.std.proofs.Common.{◌≡◌, ℕ, zero, suc, Bool, true, false, not, ◌&&◌, ◌||◌, Some, List, [], ◌∷◌, slice_get, map, refl, sym, ap, ◌∙◌, subst}
use Rattle.std.specs.List.{list_any}
use Rattle.std.proofs.lemmas.Bool.{and_parts, or_parts, or_left, or_right, not-true, true≢false}
use Rattle.std.proofs.lemmas.Option.{same_Some}

-- no item passes the test with one in front of it
abbrev pub apart : {X : Type 0} → (X → X → Bool) → List X → List X → Bool
apart test before [] = true
apart test before (x ∷ xs) = not (list_any (test x) before) && apart test (x ∷ before) xs

parted : {X : Type 0} (test : X → X → Bool) (before : List X) (x : X) (xs : List X) → apart test before (x ∷ xs) ≡ true → (not (list_any (test x) before) ≡ true) × (apart test (x ∷ before) xs ≡ true)
parted test before x xs h = and_parts (not (list_any (test x) before)) (apart test (x ∷ before) xs) h

none_before : {X : Type 0} (test : X → X → Bool) (before xs : List X) → apart test before xs ≡ true → (n : ℕ) (y : X) → slice_get xs n ≡ Some y → list_any (test y) before ≡ false
none_before test before [] h n y e = cc
none_before test before (x ∷ xs) h zero y e =
    subst (λ z. list_any (test z) before ≡ false) (same_Some x y e) (not-true (list_any (test x) before) (parted test before x xs h).0)
none_before test before (x ∷ xs) h (suc n) y e =
    (or_parts (test y x) (list_any (test y) before) (none_before test (x ∷ before) xs (parted test before x xs h).1 n y e)).1

not_first : {X : Type 0} (test : X → X → Bool) (before : List X) (x : X) (xs : List X) → apart test before (x ∷ xs) ≡ true → (n : ℕ) (y : X) → slice_get xs n ≡ Some y → test y x ≡ true → ⊥
not_first test before x xs h n y e t =
    let none = none_before test (x ∷ before) xs (parted test before x xs h).1 n y e in
    true≢false (sym t ∙ (or_parts (test y x) (list_any (test y) before) none).0)

-- two items that pass the test both ways are one
pub one_place : {X : Type 0} (test : X → X → Bool) (before xs : List X) → apart test before xs ≡ true → (m n : ℕ) (x y : X) → slice_get xs m ≡ Some x → slice_get xs n ≡ Some y → test x y ≡ true → test y x ≡ true → m ≡ n
one_place test before [] h m n x y d e s t = cc
one_place test before (z ∷ zs) h zero zero x y d e s t = refl
one_place test before (z ∷ zs) h zero (suc n) x y d e s t =
    absurd (not_first test before z zs h n y e (subst (λ w. test y w ≡ true) (sym (same_Some z x d)) t))
one_place test before (z ∷ zs) h (suc m) zero x y d e s t =
    absurd (not_first test before z zs h m x d (subst (λ w. test x w ≡ true) (sym (same_Some z y e)) s))
one_place test before (z ∷ zs) h (suc m) (suc n) x y d e s t =
    ap (λ k. suc k) (one_place test (z ∷ before) zs (parted test before z zs h).1 m n x y d e s t)

-- an item of a mapped list comes of an item of the list
pub mapped_at : {A B : Type 0} (f : A → B) (xs : List A) (n : ℕ) (y : B) → slice_get (map f xs) n ≡ Some y → (x : A) × (slice_get xs n ≡ Some x) × (f x ≡ y)
mapped_at f [] n y e = absurd (cc)
mapped_at f (x ∷ xs) zero y e = (x, refl, same_Some (f x) y e)
mapped_at f (x ∷ xs) (suc n) y e = mapped_at f xs n y e

-- an item that passes the test, with its place
abbrev pub Passing : {X : Type 0} → (X → Bool) → List X → Type 0
Passing {X} test xs = (n : ℕ) × (x : X) × (slice_get xs n ≡ Some x) × (test x ≡ true)

passing_by : {X : Type 0} (test : X → Bool) (x : X) (xs : List X) (b : Bool) → test x ≡ b → (list_any test xs ≡ true → Passing test xs) → (b || list_any test xs) ≡ true → Passing test (x ∷ xs)
passing_by test x xs true e f h = (zero, x, refl, e)
passing_by test x xs false e f h = let r = f h in (suc r.0, r.1, r.2, r.3)

pub passing : {X : Type 0} (test : X → Bool) (xs : List X) → list_any test xs ≡ true → Passing test xs
passing test [] h = absurd (cc)
passing test (x ∷ xs) h = passing_by test x xs (test x) refl (passing test xs) h

-- one item that passes the test is enough
pub any_at : {X : Type 0} (test : X → Bool) (xs : List X) (n : ℕ) (x : X) → slice_get xs n ≡ Some x → test x ≡ true → list_any test xs ≡ true
any_at test [] n x e t = absurd (cc)
any_at test (y ∷ xs) zero x e t = or_left (test y) (list_any test xs) (subst (λ z. test z ≡ true) (sym (same_Some y x e)) t)
any_at test (y ∷ xs) (suc n) x e t = or_right (test y) (list_any test xs) (any_at test xs n x e t)
