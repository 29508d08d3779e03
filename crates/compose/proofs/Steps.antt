-- The steps of the loops.
use Rattle.std.proofs.Common.{arith, ◌≡◌, ◌<◌, ◌+◌, ℕ, suc, Bool, true, false, if◌then◌else◌, List, [], ◌∷◌, ◌++◌, get_or, length, drop, take, map, Option, Some, Result, Ok, Err, IfOk, refl, sym, ◌∙◌, ap, subst}
use Rattle.std.proofs.Math.Seq.{drop-cons}
use Rattle.std.proofs.lemmas.List.{append_assoc, map-append, take_more}
use Rattle.ioa_trees.specs.AutomatonRules.{MeantAutomaton}
use Rattle.ioa_trees.specs.SourceRules.{MeantComponent}
use Rattle.compose.specs.Types.{automaton_of}
use Rattle.compose.specs.TypedStandings.{Stood, entries_in, stands, first_of, differs, first_different}

pub drop_at : {A : Type 0} (xs : List A) (i : ℕ) (x : A) → x ≡ get_or xs i x → i < length xs → drop i xs ≡ x ∷ drop (i + 1) xs
drop_at xs i x is low = let next : suc i ≡ i + 1 = omega arith in drop-cons xs i x low ∙ ap (λ y. y ∷ drop (suc i) xs) (sym is) ∙ ap (λ k. x ∷ drop k xs) next

pub take_at : {A B : Type 0} (f : A → B) (xs : List A) (i : ℕ) (x : A) → x ≡ get_or xs i x → i < length xs → map f (take (i + 1) xs) ≡ map f (take i xs) ++ f x ∷ []
take_at f xs i x is low = ap (map f) (take_more xs i x low ∙ ap (λ y. take i xs ++ y ∷ []) (sym is)) ∙ map-append f (take i xs) (x ∷ [])

-- one more item behind those that were pushed
pub push_step : {A B : Type 0} (f : A → B) (xs ys : List A) (x : A) (y : B) (left all : List B) → ys ≡ xs ++ x ∷ [] → f x ≡ y → map f xs ++ y ∷ left ≡ all → map f ys ++ left ≡ all
push_step {A = A} {B = B} f xs ys x y left all pushed is before = ap (λ zs. map f zs ++ left) pushed ∙ go xs ∙ ap (λ z. map f xs ++ z ∷ left) is ∙ before
  where
    go : (zs : List A) → map f (zs ++ x ∷ []) ++ left ≡ map f zs ++ f x ∷ left
    go [] = refl
    go (z ∷ zs) = ap (λ ws. f z ∷ ws) (go zs)

-- the entries of one more component
pub stands_step : {X : Type 0} (automata : List MeantAutomaton) (f : X → MeantComponent) (xs : List X) (n : ℕ) (x : X) (done new whole : List Stood)
    → x ≡ get_or xs n x → n < length xs → new ≡ done ++ entries_in n (automaton_of automata (f x).automaton)
    → done ++ stands automata n (map f (drop n xs)) ≡ whole → new ++ stands automata (n + 1) (map f (drop (n + 1) xs)) ≡ whole
stands_step automata f xs n x done new whole is low added before =
    let next : n + 1 ≡ suc n = omega arith in
    ap (λ ys. ys ++ stands automata (n + 1) (map f (drop (n + 1) xs))) added
    ∙ append_assoc done (entries_in n (automaton_of automata (f x).automaton)) (stands automata (n + 1) (map f (drop (n + 1) xs)))
    ∙ ap (λ k. done ++ (entries_in n (automaton_of automata (f x).automaton) ++ stands automata k (map f (drop (n + 1) xs)))) next
    ∙ ap (λ ys. done ++ stands automata n (map f ys)) (sym (drop_at xs n x is low))
    ∙ before

-- ---- the search

-- the list begins with an entry that doesn't differ
pub search_on : (before after rest left : List Stood) (s : Stood) (whole : Option ℕ) → left ≡ s ∷ rest → after ≡ before ++ s ∷ [] → differs (first_of s.name before) s ≡ false → first_different before left ≡ whole → first_different after rest ≡ whole
search_on before after rest left s whole is added same h =
    ap (λ xs. first_different xs rest) added
    ∙ ap (λ (b : Bool). if b then Some s.component else first_different (before ++ s ∷ []) rest) (sym same)
    ∙ ap (first_different before) (sym is)
    ∙ h

-- the list begins with one that differs
pub search_ends : (before rest left : List Stood) (s : Stood) (whole : Option ℕ) → left ≡ s ∷ rest → differs (first_of s.name before) s ≡ true → first_different before left ≡ whole → Some s.component ≡ whole
search_ends before rest left s whole is other h =
    ap (λ (b : Bool). if b then Some s.component else first_different (before ++ s ∷ []) rest) (sym other)
    ∙ ap (first_different before) (sym is)
    ∙ h

-- what holds of what was wanted holds of what was found
pub outcome : {E : Type 0} (r : Result (Option ℕ) E) (P : Option ℕ → Type 0) (all whole : List Stood) → all ≡ whole → P (first_different [] whole) → IfOk r (λ first. first ≡ first_different [] all) → IfOk r P
outcome (Ok first) P all whole same p e = subst P (sym (e ∙ ap (first_different []) same)) p
outcome (Err e) P all whole same p i = i
