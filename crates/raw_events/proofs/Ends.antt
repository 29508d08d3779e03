-- The far end of the items before the cursor.
use Rattle.std.proofs.Common.{◌≡◌, ◌==◌, false, List, [], ◌∷◌, ◌++◌, Some, length, reverse, slice_index_or, refl, sym, ap, ◌∙◌}
use Rattle.std.proofs.lemmas.List.{reverse-append}
use Rattle.raw_events.specs.Around.{last, without_last, first_of, without_first_of}

module _ {X : Type 0} where
  last_snoc : (y : X) (ys : List X) (x : X) → last (y ∷ ys ++ x ∷ []) ≡ Some x
  last_snoc y [] x = refl
  last_snoc y (z ∷ ys) x = last_snoc z ys x

  without_last_snoc : (y : X) (ys : List X) (x : X) → without_last (y ∷ ys ++ x ∷ []) ≡ y ∷ ys
  without_last_snoc y [] x = refl
  without_last_snoc y (z ∷ ys) x = ap (λ zs. y ∷ zs) (without_last_snoc z ys x)

  first_of_snoc : (ys : List X) (x : X) (after : List X) → first_of (ys ++ x ∷ []) after ≡ Some x
  first_of_snoc [] x after = refl
  first_of_snoc (y ∷ ys) x after = last_snoc y ys x

  without_first_of_snoc : (ys : List X) (x : X) (after : List X) → without_first_of (ys ++ x ∷ []) after ≡ record { before = ys; after = after }
  without_first_of_snoc [] x after = refl
  without_first_of_snoc (y ∷ ys) x after = ap (λ zs. record { before = zs; after = after }) (without_last_snoc y ys x)

  reversed : (all one rest : List X) (x : X) → all ≡ one ++ rest → one ≡ x ∷ [] → reverse all ≡ reverse rest ++ x ∷ []
  reversed all one rest x e f = ap reverse (e ∙ ap (λ xs. xs ++ rest) f) ∙ reverse-append (x ∷ []) rest

  -- the first of a list is the farthest of its reverse
  pub farthest : (all one rest : List X) (x : X) (after : List X) → all ≡ one ++ rest → one ≡ x ∷ [] → Some x ≡ first_of (reverse all) after
  farthest all one rest x after e f = sym (first_of_snoc (reverse rest) x after) ∙ ap (λ xs. first_of xs after) (sym (reversed all one rest x e f))

  -- the others are what is left
  pub but_farthest : (all one rest : List X) (x : X) (after : List X) → all ≡ one ++ rest → one ≡ x ∷ [] → record { before = reverse rest; after = after } ≡ without_first_of (reverse all) after
  but_farthest all one rest x after e f = sym (without_first_of_snoc (reverse rest) x after) ∙ ap (λ xs. without_first_of xs after) (sym (reversed all one rest x e f))

  -- the first of a list that has one is the farthest of its reverse
  pub farthest_at : (all : List X) (x : X) (after : List X) → (length all == 0) ≡ false → x ≡ slice_index_or all 0 x → Some x ≡ first_of (reverse all) after
  farthest_at [] x after h e = cc
  farthest_at (y ∷ all) x after h e = ap Some e ∙ farthest (y ∷ all) (y ∷ []) all y after refl refl
