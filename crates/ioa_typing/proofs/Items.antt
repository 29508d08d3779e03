-- Lists, item by item.
use Rattle.std.proofs.Common.{◌≡◌, ◌<◌, ◌+◌, ◌||◌, ℕ, Bool, List, [], ◌∷◌, ◌++◌, refl, ap, sym, ◌∙◌, drop, length, map, take}
use Rattle.std.proofs.Math.ListN.{get_or}
use Rattle.std.proofs.lemmas.List.{drop_more}
use Rattle.std.specs.List.{list_any}

-- what is left is the item at its place and what is left after it
pub drop_at : {X : Type 0} (xs : List X) (i : ℕ) (x : X) → x ≡ get_or xs i x → i < length xs → drop i xs ≡ x ∷ drop (i + 1) xs
drop_at xs i x is below = drop_more xs i x below ∙ ap (λ y. y ∷ drop (i + 1) xs) (sym is)

-- one more item behind those that were pushed
pub push_step : {A B : Type 0} (f : A → B) (xs ys : List A) (x : A) (y : B) (left all : List B) → ys ≡ xs ++ x ∷ [] → f x ≡ y → map f xs ++ y ∷ left ≡ all → map f ys ++ left ≡ all
push_step {A = A} {B = B} f xs ys x y left all pushed is before = ap (λ zs. map f zs ++ left) pushed ∙ go xs ∙ ap (λ z. map f xs ++ z ∷ left) is ∙ before
  where
    go : (zs : List A) → map f (zs ++ x ∷ []) ++ left ≡ map f zs ++ f x ∷ left
    go [] = refl
    go (z ∷ zs) = ap (λ ws. f z ∷ ws) (go zs)

pub take_all : {A : Type 0} (xs : List A) → take (length xs) xs ≡ xs
take_all [] = refl
take_all (x ∷ xs) = ap (λ ys. x ∷ ys) (take_all xs)

pub any_map : {A B : Type 0} (f : B → Bool) (h : A → B) (xs : List A) → list_any f (map h xs) ≡ list_any (λ x. f (h x)) xs
any_map f h [] = refl
any_map f h (x ∷ xs) = ap (λ b. f (h x) || b) (any_map f h xs)
