-- Lists: what is in them.
use Rattle.std.proofs.Common.{◌≡◌, ◌⊎◌, inl, inr, ℕ, zero, suc, List, [], ◌∷◌, ◌++◌, map, slice_get, Some, refl, ap}

module _ {A : Type 0} where
  -- x is in a list
  abbrev pub In : A → List A → Type 0
  In x [] = ⊥
  In x (y ∷ ys) = (y ≡ x) ⊎ In x ys

  pub in_left : (x : A) (xs ys : List A) → In x xs → In x (xs ++ ys)
  in_left x [] ys h = absurd h
  in_left x (y ∷ xs) ys (inl h) = inl h
  in_left x (y ∷ xs) ys (inr h) = inr (in_left x xs ys h)

  pub in_right : (x : A) (xs ys : List A) → In x ys → In x (xs ++ ys)
  in_right x [] ys h = h
  in_right x (y ∷ xs) ys h = inr (in_right x xs ys h)

  pub in_either : (x : A) (xs ys : List A) → In x (xs ++ ys) → In x xs ⊎ In x ys
  in_either x [] ys h = inr h
  in_either x (y ∷ xs) ys (inl h) = inl (inl h)
  in_either x (y ∷ xs) ys (inr h) = further (in_either x xs ys h)
    where
      further : In x xs ⊎ In x ys → In x (y ∷ xs) ⊎ In x ys
      further (inl i) = inl (inr i)
      further (inr i) = inr i

  pub in_place : (xs : List A) (n : ℕ) (x : A) → slice_get xs n ≡ Some x → In x xs
  in_place [] n x e = cc
  in_place (y ∷ xs) zero x e = inl (cc)
  in_place (y ∷ xs) (suc n) x e = inr (in_place xs n x e)

  -- where it is
  pub place_in : (xs : List A) (x : A) → In x xs → (n : ℕ) × (slice_get xs n ≡ Some x)
  place_in [] x h = absurd h
  place_in (y ∷ xs) x (inl h) = (0, ap Some h)
  place_in (y ∷ xs) x (inr h) = let p = place_in xs x h in (suc p.0, p.1)

module _ {A B : Type 0} (f : A → B) where
  pub in_mapped : (x : A) (xs : List A) → In x xs → In (f x) (map f xs)
  in_mapped x [] h = h
  in_mapped x (y ∷ xs) (inl h) = inl (ap f h)
  in_mapped x (y ∷ xs) (inr h) = inr (in_mapped x xs h)

  pub of_mapped : (z : B) (xs : List A) → In z (map f xs) → (x : A) × (In x xs × (f x ≡ z))
  of_mapped z [] h = absurd h
  of_mapped z (x ∷ xs) (inl h) = (x, (inl refl, h))
  of_mapped z (x ∷ xs) (inr h) = let m = of_mapped z xs h in (m.0, (inr m.1.0, m.1.1))
