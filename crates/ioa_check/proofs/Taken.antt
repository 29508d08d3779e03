-- Lists that are taken item by item, while another grows.
use Rattle.std.proofs.Common.{◌≡◌, List, [], ◌∷◌, ◌++◌, map, Option, Some, None, IsSome, refl, sym, ap, subst, ◌∙◌, append_assoc}
use Rattle.std.proofs.lemmas.List.Elements.{All-nil, All-cons, All-head, All-tail}
use Rattle.std.specs.List.{All}
use Rattle.ioa_trees.specs.Meant.{AllSome}

map_end : {A B : Type 0} (f : A → B) (ys : List A) (y : A) → map f (ys ++ y ∷ []) ≡ map f ys ++ f y ∷ []
map_end f [] y = refl
map_end f (z ∷ ys) y = ap (λ r. f z ∷ r) (map_end f ys y)

-- one more was put, and one less is left
pub put : {A B : Type 0} (f : A → B) (ys new : List A) (y : A) (x : B) (before rest all : List B)
    → new ≡ ys ++ y ∷ [] → f y ≡ x → before ≡ x ∷ rest → map f ys ++ before ≡ all → map f new ++ rest ≡ all
put f ys new y x before rest all pushed is split whole =
    ap (λ l. map f l ++ rest) pushed ∙ ap (λ l. l ++ rest) (map_end f ys y) ∙ append_assoc (map f ys) (f y ∷ []) rest
    ∙ ap (λ z. map f ys ++ z ∷ rest) is ∙ ap (λ l. map f ys ++ l) (sym split) ∙ whole

-- what holds of all that is left holds of the next, and of the others
pub next_of : {A B : Type 0} (P : B → Type 0) (g : A → B) (before rest : List A) (x : A) → before ≡ x ∷ rest → All P (map g before) → P (g x)
next_of P g before rest x split all = All-head P (g x) (map g rest) (subst (λ l. All P (map g l)) split all)

pub others_of : {A B : Type 0} (P : B → Type 0) (g : A → B) (before rest : List A) (x : A) → before ≡ x ∷ rest → All P (map g before) → All P (map g rest)
others_of P g before rest x split all = All-tail P (g x) (map g rest) (subst (λ l. All P (map g l)) split all)

pub next_some : {A : Type 0} (before rest : List (Option A)) (x : Option A) → before ≡ x ∷ rest → AllSome before → IsSome x
next_some {A} before rest x split all = All-head (λ (o : Option A). IsSome o) x rest (subst AllSome split all)

pub others_some : {A : Type 0} (before rest : List (Option A)) (x : Option A) → before ≡ x ∷ rest → AllSome before → AllSome rest
others_some {A} before rest x split all = All-tail (λ (o : Option A). IsSome o) x rest (subst AllSome split all)

some_below : {A B : Type 0} (f : Option A → Option B) (x : Option A) → f None ≡ None → IsSome (f x) → IsSome x
some_below {A} {B} f None none h = let never : IsSome {T = B} None = subst IsSome none h in cc
some_below f (Some y) none h = refl

-- what is missing nowhere isn't missing below either
pub below : {A B : Type 0} (f : Option A → Option B) (xs : List (Option A)) → f None ≡ None → AllSome (map f xs) → AllSome xs
below {A} f [] none all = All-nil (λ (o : Option A). IsSome o)
below {A} {B} f (x ∷ xs) none all =
    All-cons (λ (o : Option A). IsSome o) x xs
    (some_below f x none (All-head (λ (o : Option B). IsSome o) (f x) (map f xs) all))
    (below f xs none (All-tail (λ (o : Option B). IsSome o) (f x) (map f xs) all))

-- what is there is seen as what was there
map_some : {A B : Type 0} (f : Option A → B) (xs : List A) → map (λ x. f (Some x)) xs ≡ map f (map Some xs)
map_some f [] = refl
map_some f (x ∷ xs) = ap (λ r. f (Some x) ∷ r) (map_some f xs)

pub raised : {A B : Type 0} (f : Option A → B) (xs : List A) (ys : List (Option A)) → map Some xs ≡ ys → map (λ x. f (Some x)) xs ≡ map f ys
raised f xs ys same = map_some f xs ∙ ap (map f) same
