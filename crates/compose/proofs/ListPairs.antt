-- Lists: one of them, and one and a later one.
use Rattle.std.proofs.Common.{◌≡◌, ◌≢◌, ◌⊎◌, inl, inr, Bool, true, false, cond, List, [], ◌∷◌, ◌++◌, filter, refl, sym, ◌∙◌, subst}
use Rattle.compose.specs.Standings.{Has, Pair}

module _ {A : Type 0} where
  pub has_left : (P : A → Type 0) (xs ys : List A) → Has P xs → Has P (xs ++ ys)
  has_left P [] ys h = absurd h
  has_left P (x ∷ xs) ys (inl h) = inl h
  has_left P (x ∷ xs) ys (inr h) = inr (has_left P xs ys h)

  pub has_right : (P : A → Type 0) (xs ys : List A) → Has P ys → Has P (xs ++ ys)
  has_right P [] ys h = h
  has_right P (x ∷ xs) ys h = inr (has_right P xs ys h)

  pub has_split : (P : A → Type 0) (xs ys : List A) → Has P (xs ++ ys) → Has P xs ⊎ Has P ys
  has_split P [] ys h = inr h
  has_split P (x ∷ xs) ys (inl h) = inl (inl h)
  has_split P (x ∷ xs) ys (inr h) = further (has_split P xs ys h)
    where
      further : Has P xs ⊎ Has P ys → Has P (x ∷ xs) ⊎ Has P ys
      further (inl i) = inl (inr i)
      further (inr i) = inr i

  pub has_weaker : (P Q : A → Type 0) → ((x : A) → P x → Q x) → (xs : List A) → Has P xs → Has Q xs
  has_weaker P Q f [] h = absurd h
  has_weaker P Q f (x ∷ xs) (inl h) = inl (f x h)
  has_weaker P Q f (x ∷ xs) (inr h) = inr (has_weaker P Q f xs h)

  pub has_none : (P : A → Type 0) → ((x : A) → P x → ⊥) → (xs : List A) → Has P xs → ⊥
  has_none P f [] h = h
  has_none P f (x ∷ xs) (inl h) = f x h
  has_none P f (x ∷ xs) (inr h) = has_none P f xs h

  -- what passes a test, and what is left by a test that all of these pass
  pub has_filtered : (P : A → Type 0) (t : A → Bool) → ((x : A) → P x → t x ≡ true) → (xs : List A) → Has P xs → Has P (filter t xs)
  has_filtered P t f [] h = h
  has_filtered P t f (x ∷ xs) (inl h) = subst (λ b. Has P (cond b (x ∷ filter t xs) (filter t xs))) (sym (f x h)) (inl h)
  has_filtered P t f (x ∷ xs) (inr h) = by (t x) (has_filtered P t f xs h)
    where
      by : (b : Bool) → Has P (filter t xs) → Has P (cond b (x ∷ filter t xs) (filter t xs))
      by true i = inr i
      by false i = i

  pub has_of_filtered : (P : A → Type 0) (t : A → Bool) (xs : List A) → Has P (filter t xs) → Has P xs
  has_of_filtered P t [] h = h
  has_of_filtered P t (x ∷ xs) h = by (t x) (λ i. has_of_filtered P t xs i) h
    where
      by : (b : Bool) → (Has P (filter t xs) → Has P xs) → Has P (cond b (x ∷ filter t xs) (filter t xs)) → Has P (x ∷ xs)
      by true f (inl i) = inl i
      by true f (inr i) = inr (f i)
      by false f i = inr (f i)

  -- each of a list is this or that
  pub has_either : (P Q : A → Type 0) → (xs : List A) → Has (λ x. P x ⊎ Q x) xs → Has P xs ⊎ Has Q xs
  has_either P Q [] h = absurd h
  has_either P Q (x ∷ xs) (inl (inl h)) = inl (inl h)
  has_either P Q (x ∷ xs) (inl (inr h)) = inr (inl h)
  has_either P Q (x ∷ xs) (inr h) = further (has_either P Q xs h)
    where
      further : Has P xs ⊎ Has Q xs → Has P (x ∷ xs) ⊎ Has Q (x ∷ xs)
      further (inl i) = inl (inr i)
      further (inr i) = inr (inr i)

  pub pair_weaker : (R S : A → A → Type 0) → ((x y : A) → R x y → S x y) → (xs : List A) → Pair R xs → Pair S xs
  pair_weaker R S f [] h = h
  pair_weaker R S f (x ∷ xs) (inl h) = inl (has_weaker (R x) (S x) (f x) xs h)
  pair_weaker R S f (x ∷ xs) (inr h) = inr (pair_weaker R S f xs h)

  pub pair_right : (R : A → A → Type 0) (xs ys : List A) → Pair R ys → Pair R (xs ++ ys)
  pair_right R [] ys h = h
  pair_right R (x ∷ xs) ys h = inr (pair_right R xs ys h)

  pub pair_left : (R : A → A → Type 0) (xs ys : List A) → Pair R xs → Pair R (xs ++ ys)
  pair_left R [] ys h = absurd h
  pair_left R (x ∷ xs) ys (inl h) = inl (has_left (R x) xs ys h)
  pair_left R (x ∷ xs) ys (inr h) = inr (pair_left R xs ys h)

  -- the later one of a pair
  pub pair_later : (R : A → A → Type 0) (Q : A → Type 0) → ((x y : A) → R x y → Q y) → (xs : List A) → Pair R xs → Has Q xs
  pair_later R Q f [] h = h
  pair_later R Q f (x ∷ xs) (inl h) = inr (has_weaker (R x) Q (f x) xs h)
  pair_later R Q f (x ∷ xs) (inr h) = inr (pair_later R Q f xs h)

  -- a pair is in the first of two lists, or its later one in the second
  pub pair_split : (R : A → A → Type 0) (Q : A → Type 0) → ((x y : A) → R x y → Q y) → (xs ys : List A) → Pair R (xs ++ ys) → Pair R xs ⊎ Has Q ys
  pair_split R Q f [] ys h = inr (pair_later R Q f ys h)
  pair_split R Q f (x ∷ xs) ys (inl h) = further (has_split (R x) xs ys h)
    where
      further : Has (R x) xs ⊎ Has (R x) ys → Pair R (x ∷ xs) ⊎ Has Q ys
      further (inl i) = inl (inl i)
      further (inr i) = inr (has_weaker (R x) Q (f x) ys i)
  pair_split R Q f (x ∷ xs) ys (inr h) = further (pair_split R Q f xs ys h)
    where
      further : Pair R xs ⊎ Has Q ys → Pair R (x ∷ xs) ⊎ Has Q ys
      further (inl i) = inl (inr i)
      further (inr i) = inr i

  -- one of a list and what follows it
  pub pair_across : (R : A → A → Type 0) (y : A) (xs ys : List A) → Has (λ x. R x y) xs → Pair R (xs ++ y ∷ ys)
  pair_across R y [] ys h = absurd h
  pair_across R y (x ∷ xs) ys (inl h) = inl (has_right (R x) xs (y ∷ ys) (inl h))
  pair_across R y (x ∷ xs) ys (inr h) = inr (pair_across R y xs ys h)

  -- a pair with one more item: it was there before, or the last one is its later one
  pub pair_last : (R : A → A → Type 0) (y : A) (xs : List A) → Pair R (xs ++ y ∷ []) → Pair R xs ⊎ Has (λ x. R x y) xs
  pair_last R y [] h = absurd (none h)
    where
      none : ⊥ ⊎ ⊥ → ⊥
      none (inl i) = i
      none (inr i) = i
  pair_last R y (x ∷ xs) (inl h) = further (has_split (R x) xs (y ∷ []) h)
    where
      further : Has (R x) xs ⊎ Has (R x) (y ∷ []) → Pair R (x ∷ xs) ⊎ Has (λ z. R z y) (x ∷ xs)
      further (inl i) = inl (inl i)
      further (inr (inl i)) = inr (inl i)
      further (inr (inr i)) = absurd i
  pair_last R y (x ∷ xs) (inr h) = further (pair_last R y xs h)
    where
      further : Pair R xs ⊎ Has (λ z. R z y) xs → Pair R (x ∷ xs) ⊎ Has (λ z. R z y) (x ∷ xs)
      further (inl i) = inl (inr i)
      further (inr i) = inr (inr i)

  -- two of a list that differ stand there one after the other
  pub pair_of : (R : A → A → Type 0) (x y : A) → x ≢ y → R x y → R y x → (zs : List A) → Has (λ z. z ≡ x) zs → Has (λ z. z ≡ y) zs → Pair R zs
  pair_of R x y differ r s [] h i = h
  pair_of R x y differ r s (z ∷ zs) (inl h) (inl i) = absurd (differ (sym h ∙ i))
  pair_of R x y differ r s (z ∷ zs) (inl h) (inr i) = inl (has_weaker (λ w. w ≡ y) (R z) (λ w e. subst (R z) (sym e) (subst (λ v. R v y) (sym h) r)) zs i)
  pair_of R x y differ r s (z ∷ zs) (inr h) (inl i) = inl (has_weaker (λ w. w ≡ x) (R z) (λ w e. subst (R z) (sym e) (subst (λ v. R v x) (sym i) s)) zs h)
  pair_of R x y differ r s (z ∷ zs) (inr h) (inr i) = inr (pair_of R x y differ r s zs h i)

  -- the two of a pair
  pub record Two (R : A → A → Type 0) (xs : List A) : Type 0 where
    pub first : A
    pub second : A
    pub is_first : Has (λ z. z ≡ first) xs
    pub is_second : Has (λ z. z ≡ second) xs
    pub holds : R first second

  one_of : (P : A → Type 0) (xs : List A) → Has P xs → (x : A) × (P x × Has (λ z. z ≡ x) xs)
  one_of P [] h = absurd h
  one_of P (x ∷ xs) (inl h) = (x, (h, inl refl))
  one_of P (x ∷ xs) (inr h) = let o = one_of P xs h in (o.0, (o.1.0, inr o.1.1))

  pub two_of : (R : A → A → Type 0) (xs : List A) → Pair R xs → Two R xs
  two_of R [] h = absurd h
  two_of R (x ∷ xs) (inl h) = let o = one_of (R x) xs h in record { first = x; second = o.0; is_first = inl refl; is_second = inr o.1.1; holds = o.1.0 }
  two_of R (x ∷ xs) (inr h) = let t = two_of R xs h in record { first = t.first; second = t.second; is_first = inr t.is_first; is_second = inr t.is_second; holds = t.holds }
