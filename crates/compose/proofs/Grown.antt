-- Lists that grow item by item.
use Rattle.std.proofs.Common.{◌≡◌, ℕ, ◌+◌, ◌<◌, List, [], ◌∷◌, ◌++◌, map, length, take, get_or, refl, sym, ap, ◌∙◌, append_assoc}
use Rattle.std.proofs.lemmas.List.{take_more}

pub map_end : {A B : Type 0} (f : A → B) (ys : List A) (y : A) → map f (ys ++ y ∷ []) ≡ map f ys ++ f y ∷ []
map_end f [] y = refl
map_end f (z ∷ ys) y = ap (λ r. f z ∷ r) (map_end f ys y)

pub taken : {A : Type 0} (xs : List A) (i : ℕ) (x : A) → x ≡ get_or xs i x → i < length xs → take (i + 1) xs ≡ take i xs ++ x ∷ []
taken xs i x is low = take_more xs i x low ∙ ap (λ y. take i xs ++ y ∷ []) (sym is)

-- one more of a list seen twice
pub one_more : {A B C D : Type 0} (h : D → C) (g : B → C) (f : A → B) (xs : List A) (i : ℕ) (x : A) (ys new : List D) (y : D)
    → x ≡ get_or xs i x → i < length xs → new ≡ ys ++ y ∷ [] → h y ≡ g (f x) → map h ys ≡ map g (map f (take i xs)) → map h new ≡ map g (map f (take (i + 1) xs))
one_more h g f xs i x ys new y is low pushed same before =
    ap (map h) pushed ∙ map_end h ys y ∙ ap (λ l. l ++ h y ∷ []) before ∙ ap (λ z. map g (map f (take i xs)) ++ z ∷ []) same
    ∙ sym (map_end g (map f (take i xs)) (f x)) ∙ ap (map g) (sym (map_end f (take i xs) x)) ∙ ap (λ l. map g (map f l)) (sym (taken xs i x is low))

-- one more was put, and one less is left
pub put : {A B : Type 0} (f : A → B) (ys new : List A) (y : A) (x : B) (before rest all : List B)
    → new ≡ ys ++ y ∷ [] → f y ≡ x → before ≡ x ∷ rest → map f ys ++ before ≡ all → map f new ++ rest ≡ all
put f ys new y x before rest all pushed is split whole =
    ap (λ l. map f l ++ rest) pushed ∙ ap (λ l. l ++ rest) (map_end f ys y) ∙ append_assoc (map f ys) (f y ∷ []) rest
    ∙ ap (λ z. map f ys ++ z ∷ rest) is ∙ ap (λ l. map f ys ++ l) (sym split) ∙ whole
