-- Cells are the same where their shapes and their items are.
use Rattle.std.proofs.Common.{◌≡◌, ◌≢◌, ◌&&◌, ℕ, suc, ◌+◌, ◌<◌, ◌≤◌, Bool, true, false, not, List, [], ◌∷◌, length, get_or, drop, refl, ap, sym, ◌∙◌, arith}
use Rattle.std.proofs.lemmas.List.{drop_more, drop_all}
use Rattle.std.proofs.lemmas.Bool.{not-true, not-false}
use lib.Pointwise.{pointwise}
use Rattle.terms.specs.Datum.{Datum, Just, End, Link, pack, items_of}
use Rattle.terms.specs.Same.{same, same_pack, just_pack, pack_just}
use Rattle.terms.specs.declared.scalar.Scalar.{Scalar}
use Rattle.undo_records.specs.Places.{IsLike}

just_like : (s : Scalar) (whole value : Datum) → IsLike whole value → same (Just s) whole ≡ same (Just s) value
just_like s (Just t) value like = ap (same (Just s)) (sym (like.scalar t refl))
just_like s End value like = sym (ap (same (Just s)) (like.list refl) ∙ just_pack s (items_of value))
just_like s (Link x xs) (Just t) like = let count = like.count in absurd (omega (arith, count))
just_like s (Link x xs) End like = refl
just_like s (Link x xs) (Link y ys) like = refl

-- the first one is a scalar
pub same_scalar : (w v w' v' : Datum) (s : Scalar) → IsLike w v → IsLike w' v' → w ≡ Just s → same w w' ≡ same v v'
same_scalar w v w' v' s like like' is =
    ap (λ d. same d w') is ∙ just_like s w' v' like' ∙ ap (λ d. same d v') (sym (like.scalar s is ∙ is))

-- the first one is a list, the second one a scalar
pub same_list_scalar : (w v w' v' : Datum) (s : Scalar) → IsLike w v → IsLike w' v' → w ≡ pack (items_of w) → w' ≡ Just s → same w w' ≡ same v v'
same_list_scalar w v w' v' s like like' is is' =
    not_same w w' is is' ∙ sym (not_same v v' (like.list is) (like'.scalar s is' ∙ is'))
  where
    not_same : (d e : Datum) → d ≡ pack (items_of d) → e ≡ Just s → same d e ≡ false
    not_same d e d_is e_is = ap (λ x. same x e) d_is ∙ ap (same (pack (items_of d))) e_is ∙ pack_just s (items_of d)

pub lists_same : (d e : Datum) → d ≡ pack (items_of d) → e ≡ pack (items_of e) → same d e ≡ pointwise same (items_of d) (items_of e)
lists_same d e d_is e_is = ap (λ x. same x e) d_is ∙ ap (same (pack (items_of d))) e_is ∙ same_pack (items_of d) (items_of e)

pub other_length : {A : Type 0} (f : A → A → Bool) (xs ys : List A) → length xs ≢ length ys → pointwise f xs ys ≡ false
other_length f [] [] other = absurd (other refl)
other_length f [] (y ∷ ys) other = refl
other_length f (x ∷ xs) [] other = refl
other_length f (x ∷ xs) (y ∷ ys) other = go (f x y) (other_length f xs ys (λ same. other (ap suc same))) where
  go : (b : Bool) → pointwise f xs ys ≡ false → b && pointwise f xs ys ≡ false
  go true is = is
  go false is = refl

-- both are lists, with not as many items
pub same_other_length : (w v w' v' : Datum) → IsLike w v → IsLike w' v' → w ≡ pack (items_of w) → w' ≡ pack (items_of w') → length (items_of w) ≢ length (items_of w') → same w w' ≡ same v v'
same_other_length w v w' v' like like' is is' other =
    lists_same w w' is is' ∙ other_length same (items_of w) (items_of w') other
    ∙ sym (lists_same v v' (like.list is) (like'.list is') ∙ other_length same (items_of v) (items_of v') (λ same. other (sym like.count ∙ same ∙ like'.count)))

-- two lists are compared item by item
more : {A : Type 0} (f : A → A → Bool) (xs ys : List A) (i count : ℕ) (x y d e : A) → length xs ≡ count → length ys ≡ count → i < count → (i < length xs → x ≡ get_or xs i d) → (i < length ys → y ≡ get_or ys i e) → pointwise f xs ys ≡ pointwise f (drop i xs) (drop i ys) → pointwise f xs ys ≡ f x y && pointwise f (drop (i + 1) xs) (drop (i + 1) ys)
more f xs ys i count x y d e xs_count ys_count h x_is y_is so_far =
    let in_xs : i < length xs = omega arith in
    let in_ys : i < length ys = omega arith in
    so_far
    ∙ ap (λ zs. pointwise f zs (drop i ys)) (drop_more xs i d in_xs ∙ ap (λ z. z ∷ drop (i + 1) xs) (sym (x_is in_xs)))
    ∙ ap (pointwise f (x ∷ drop (i + 1) xs)) (drop_more ys i e in_ys ∙ ap (λ z. z ∷ drop (i + 1) ys) (sym (y_is in_ys)))

-- the items at a place are the same
pub items_equal : {A : Type 0} (f : A → A → Bool) (xs ys : List A) (i count : ℕ) (x y d e : A) → length xs ≡ count → length ys ≡ count → i < count → (i < length xs → x ≡ get_or xs i d) → (i < length ys → y ≡ get_or ys i e) → pointwise f xs ys ≡ pointwise f (drop i xs) (drop i ys) → false ≡ not (f x y) → pointwise f xs ys ≡ pointwise f (drop (i + 1) xs) (drop (i + 1) ys)
items_equal f xs ys i count x y d e xs_count ys_count h x_is y_is so_far equal =
    more f xs ys i count x y d e xs_count ys_count h x_is y_is so_far ∙ ap (λ b. b && pointwise f (drop (i + 1) xs) (drop (i + 1) ys)) (not-false (f x y) (sym equal))

-- the items at a place differ
pub items_differ : {A : Type 0} (f : A → A → Bool) (xs ys : List A) (i count : ℕ) (x y d e : A) → length xs ≡ count → length ys ≡ count → i < count → (i < length xs → x ≡ get_or xs i d) → (i < length ys → y ≡ get_or ys i e) → pointwise f xs ys ≡ pointwise f (drop i xs) (drop i ys) → true ≡ not (f x y) → false ≡ pointwise f xs ys
items_differ f xs ys i count x y d e xs_count ys_count h x_is y_is so_far differ =
    sym (more f xs ys i count x y d e xs_count ys_count h x_is y_is so_far ∙ ap (λ b. b && pointwise f (drop (i + 1) xs) (drop (i + 1) ys)) (not-true (f x y) (sym differ)))

-- no items are left
pub items_end : {A : Type 0} (f : A → A → Bool) (xs ys : List A) (i count : ℕ) → length xs ≡ count → length ys ≡ count → count ≤ i → pointwise f xs ys ≡ pointwise f (drop i xs) (drop i ys) → true ≡ pointwise f xs ys
items_end f xs ys i count xs_count ys_count h so_far =
    let past_xs : length xs ≤ i = omega arith in
    let past_ys : length ys ≤ i = omega arith in
    sym (so_far ∙ ap (λ zs. pointwise f zs (drop i ys)) (drop_all i xs past_xs) ∙ ap (pointwise f []) (drop_all i ys past_ys))
