-- The body of an automaton by its parts.
use Rattle.std.proofs.Common.{◌≡◌, ℕ, suc, ◌+◌, ◌≤◌, Bool, true, false, if◌then◌else◌, bytes_eq, nat_lt, Option, List, [], ◌∷◌, ◌++◌, length, map, take, refl, ap, ◌∙◌, arith}
use Rattle.std.proofs.lemmas.List.{append_assoc}
use Rattle.ioa_trees.specs.Trees.{Bytes, PlainAutomaton, PlainDeclared, PlainEntry, PlainVariable}
use Rattle.ioa_trees.specs.AutomatonRules.{around, body_faults, formals_faults, inside, signature_at, states_at, tasks_faults, transitions_at, variables_faults, with_formals, with_variables}
use Rattle.ioa_trees.specs.EntryRules.{entries_faults, transitions_faults}
use Rattle.ioa_trees.specs.Faults.{Fault, keep, where_wrong}
use Rattle.ioa_trees.specs.Scopes.{Meaning, OfFormal, OfVariable, Scope, declare}
use Rattle.ioa_trees.specs.Sizes.{after_word, behind, bracketed_size, listed_size, row_size, transition_size}
use Rattle.ioa_trees.specs.TypeRules.{kind_of}
use Rattle.ioa_check.specs.Bodies.{actions_faults, front_faults, states_faults, states_size, word}
use Rattle.ioa_typing.proofs.Keeps.{keep_both, keep_three}
use Rattle.ioa_typing.proofs.Items.{take_all}

-- ---- words and parentheses

pub word_map : {A B : Type 0} (f : A → B) (xs : List A) → word xs ≡ word (map f xs)
word_map f [] = refl
word_map f (x ∷ xs) = refl

pub bracketed_sized : {A : Type 0} (f : A → ℕ) (xs : List A) → bracketed_size f xs ≡ word xs + listed_size f xs + word xs
bracketed_sized f [] = refl
bracketed_sized f (x ∷ xs) = omega arith

pub listed_after : {A : Type 0} (f : A → ℕ) (xs : List A) → after_word (listed_size f xs) xs ≡ word xs + listed_size f xs
listed_after f [] = refl
listed_after f (x ∷ xs) = omega arith

pub row_after : {A : Type 0} (f : A → ℕ) (xs : List A) → after_word (row_size f xs) xs ≡ word xs + row_size f xs
row_after f [] = refl
row_after f (x ∷ xs) = omega arith

-- one more item behind a list
pub behind_last : {A B : Type 0} (f : B → ℕ) (g : A → B) (xs ys : List A) (x : A) → ys ≡ xs ++ x ∷ [] → behind f (map g ys) ≡ behind f (map g xs) + f (g x) + 1
behind_last {A = A} f g xs ys x pushed = ap (λ zs. behind f (map g zs)) pushed ∙ go xs
  where
    go : (zs : List A) → behind f (map g (zs ++ x ∷ [])) ≡ behind f (map g zs) + f (g x) + 1
    go [] = omega arith
    go (z ∷ zs) = let rest = go zs in omega (arith, rest)

pub bracketed_most : {A : Type 0} (f : A → ℕ) (xs : List A) → bracketed_size f xs ≤ behind f xs + 1
bracketed_most f [] = omega arith
bracketed_most f (x ∷ xs) = omega arith

pub formals_place : (s : Scope) (at : ℕ) (ds : List PlainDeclared) → formals_faults s 0 (at + word ds) ds ≡ formals_faults s 0 (at + 1) ds
formals_place s at [] = refl
formals_place s at (d ∷ ds) = refl

pub variables_place : (s : Scope) (used : List Bytes) (at : ℕ) (vs : List PlainVariable) → variables_faults s used 0 (at + word vs) vs ≡ variables_faults s used 0 (at + 1) vs
variables_place s used at [] = refl
variables_place s used at (v ∷ vs) = refl

tasks_place : (es : List PlainEntry) (at : ℕ) (ts : List (List Bytes)) → tasks_faults es [] (at + word ts) ts ≡ tasks_faults es [] (at + 1) ts
tasks_place es at [] = refl
tasks_place es at (t ∷ ts) = refl

-- ---- faults

pub front_noted : (s t : Scope) (at here place : ℕ) (a : PlainAutomaton) (long : Bool) (o p q z : Option Fault) →
    p ≡ keep o (where_wrong long (at + 1) 17) → long ≡ nat_lt 16 (length a.formals) →
    q ≡ keep p (formals_faults s 0 (here + 1) a.formals) → here ≡ at + 2 →
    z ≡ keep q (entries_faults t [] a.transitions a.tasks place a.entries) → t ≡ inside s a → place ≡ signature_at at a + 1 →
    z ≡ keep o (front_faults s at a)
front_noted s t at here place a long o p q z first is second opened third scope next =
    let third_place : here + 1 ≡ at + 3 = omega (arith, opened) in
    keep_three o p q z (where_wrong (nat_lt 16 (length a.formals)) (at + 1) 17) (formals_faults s 0 (here + 1) a.formals) (formals_faults s 0 (at + 3) a.formals)
    (entries_faults (inside s a) [] a.transitions a.tasks (signature_at at a + 1) a.entries)
    (first ∙ ap (λ b. keep o (where_wrong b (at + 1) 17)) is)
    (ap (λ n. formals_faults s 0 n a.formals) third_place)
    second
    (third ∙ ap (λ r. keep q (entries_faults r [] a.transitions a.tasks place a.entries)) scope ∙ ap (λ n. keep q (entries_faults (inside s a) [] a.transitions a.tasks n a.entries)) next)

pub actions_noted : (s : Scope) (at here place w : ℕ) (a : PlainAutomaton) (o p z : Option Fault) →
    p ≡ keep o (transitions_faults s a.entries [] here a.transitions) → here ≡ at + 1 →
    z ≡ keep p (tasks_faults a.entries [] (place + w) a.tasks) → place ≡ here + row_size transition_size a.transitions → w ≡ word a.tasks →
    z ≡ keep o (actions_faults s at a)
actions_noted s at here place w a o p z first begun second behind is =
    let next : place ≡ at + 1 + row_size transition_size a.transitions = omega (arith, begun, behind) in
    let last = at + 1 + row_size transition_size a.transitions in
    keep_both o p z (transitions_faults s a.entries [] (at + 1) a.transitions) (tasks_faults a.entries [] (place + w) a.tasks) (tasks_faults a.entries [] (last + 1) a.tasks)
    (first ∙ ap (λ n. keep o (transitions_faults s a.entries [] n a.transitions)) begun)
    (ap (λ n. tasks_faults a.entries [] (n + w) a.tasks) next ∙ ap (λ n. tasks_faults a.entries [] (last + n) a.tasks) is ∙ tasks_place a.entries last a.tasks)
    second

pub body_noted : (s t u : Scope) (at here place : ℕ) (a : PlainAutomaton) (o p q z : Option Fault) →
    p ≡ keep o (front_faults s at a) → t ≡ inside s a → here ≡ states_at at a →
    q ≡ keep p (states_faults t here a) → u ≡ with_variables t t 0 a.variables → place ≡ here + states_size a →
    z ≡ keep q (actions_faults u place a) → z ≡ keep o (body_faults s at a)
body_noted s t u at here place a o p q z first scope begun second larger behind third =
    let seen : u ≡ around s a = larger ∙ ap (λ x. with_variables x x 0 a.variables) scope in
    let next : place ≡ transitions_at at a = behind ∙ ap (λ n. n + states_size a) begun in
    let front = front_faults s at a in
    let states = states_faults (inside s a) (states_at at a) a in
    let actions = actions_faults (around s a) (transitions_at at a) a in
    let joined : front ++ (states ++ actions) ≡ body_faults s at a = simp append_assoc refl in
    keep_three o p q z front (states_faults t here a) states actions
    first
    (ap (λ x. states_faults x here a) scope ∙ ap (λ n. states_faults (inside s a) n a) begun)
    second
    (third ∙ ap (λ x. keep q (actions_faults x place a)) seen ∙ ap (λ n. keep q (actions_faults (around s a) n a)) next)
    ∙ ap (keep o) joined

-- ---- what is declared inside is forgotten

abbrev first_or : {A : Type 0} → A → List A → A
first_or x [] = x
first_or x (y ∷ ys) = y

abbrev others : {A : Type 0} → List A → List A
others [] = []
others (x ∷ xs) = xs

-- the first names stay
first_stay : (q : Bytes) (m : Meaning) (s t : Scope) → take (length s) t ≡ s → take (length s) (declare q m t) ≡ s
first_stay q m [] t h = refl
first_stay q m (e ∷ s) [] h = cc
first_stay q m (e ∷ s) (d ∷ t) h = go (bytes_eq q d.0) (first_stay q m s t (ap others h))
  where
    go : (b : Bool) → take (length s) (declare q m t) ≡ s → take (suc (length s)) (if b then d ∷ t else d ∷ declare q m t) ≡ e ∷ s
    go true ih = h
    go false ih = ap (λ ys. d ∷ ys) ih ∙ ap (λ x. x ∷ s) (ap (first_or d) h)

formals_stay : (s t : Scope) (n : ℕ) (ds : List PlainDeclared) → take (length s) t ≡ s → take (length s) (with_formals t n ds) ≡ s
formals_stay s t n [] h = h
formals_stay s t n (d ∷ ds) h = formals_stay s (declare d.name (OfFormal n (kind_of t d.of)) t) (n + 1) ds (first_stay d.name (OfFormal n (kind_of t d.of)) s t h)

variables_stay : (types s t : Scope) (n : ℕ) (vs : List PlainVariable) → take (length s) t ≡ s → take (length s) (with_variables types t n vs) ≡ s
variables_stay types s t n [] h = h
variables_stay types s t n (v ∷ vs) h =
    let m = OfVariable n (kind_of types v.declared.of) in
    variables_stay types s (declare v.declared.name m t) (n + 1) vs (first_stay v.declared.name m s t h)

pub take_around : (s : Scope) (a : PlainAutomaton) → take (length s) (around s a) ≡ s
take_around s a = variables_stay (inside s a) s (inside s a) 0 a.variables (formals_stay s s 0 a.formals (take_all s))
