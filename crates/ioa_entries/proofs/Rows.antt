-- Entries one after the other: what came before them, their sizes and their faults.
use Rattle.std.proofs.Common.{◌≡◌, ℕ, suc, ◌+◌, ◌<◌, Bool, true, false, not, ◌&&◌, ◌||◌, if◌then◌else◌, bytes_eq, List, [], ◌∷◌, ◌++◌, Option, get_or, length, map, take, refl, ap, sym, ◌∙◌, arith}
use Rattle.std.proofs.lemmas.List.{reverse-append, take_more}
use Rattle.std.proofs.lemmas.List.Folds.{list_any-append}
use Rattle.std.specs.Prelude.{reverse}
use Rattle.std.specs.List.{list_any}
use Rattle.ioa_trees.specs.declared.tree.Entry.{Entry}
use Rattle.ioa_trees.specs.declared.tree.Transition.{Transition}
use Rattle.ioa_trees.specs.Views.{view_entry, view_transition}
use Rattle.ioa_trees.specs.Trees.{Bytes, PlainEntry, PlainParameter, PlainTransition, Constant, Typed}
use Rattle.ioa_trees.specs.EffectRules.{statements_faults}
use Rattle.ioa_trees.specs.EntryRules.{agrees, clashes, entries_faults, entry_faults, has_task, head_faults, is_controlled, is_large, parameters_faults, pre_faults, transition_faults, transitions_faults, with_parameter, with_parameters}
use Rattle.ioa_trees.specs.Faults.{Fault, keep, where_wrong}
use Rattle.ioa_trees.specs.Scopes.{Scope, Meaning, OfParameter, declare}
use Rattle.ioa_trees.specs.Sizes.{bracketed_size, entry_size, listed_size, parameter_size, pre_size, transition_size}
use Rattle.ioa_trees.specs.TypeRules.{kind_of}
use Rattle.ioa_entries.specs.EntryParts.{bracket, inside_faults}
use Rattle.ioa_typing.proofs.Keeps.{keep_append, keep_both, keep_five, keep_three}
use Rattle.ioa_typing.proofs.Items.{any_map, take_all}

-- ---- names that were declared last are forgotten

abbrev first_or : {A : Type 0} → A → List A → A
first_or x [] = x
first_or x (y ∷ ys) = y

abbrev others : {A : Type 0} → List A → List A
others [] = []
others (x ∷ xs) = xs

-- the first names stay
first_stay : (q : Bytes) (m : Meaning) (s t : Scope) → take (length s) t ≡ s → take (length s) (declare q m t) ≡ s
first_stay q m [] t h = refl
first_stay q m (e ∷ s) [] h = cc
first_stay q m (e ∷ s) (d ∷ t) h = go (bytes_eq q d.0) (first_stay q m s t (ap others h))
  where
    go : (b : Bool) → take (length s) (declare q m t) ≡ s → take (suc (length s)) (if b then d ∷ t else d ∷ declare q m t) ≡ e ∷ s
    go true ih = h
    go false ih = ap (λ ys. d ∷ ys) ih ∙ ap (λ x. x ∷ s) (ap (first_or d) h)

still_first : (s t : Scope) (n : ℕ) (ps : List PlainParameter) → take (length s) t ≡ s → take (length s) (with_parameters t n ps) ≡ s
still_first s t n [] h = h
still_first s t n (Constant q ∷ ps) h = still_first s t (n + 1) ps h
still_first s t n (Typed d ∷ ps) h = still_first s (with_parameter t n d) (n + 1) ps (first_stay d.name (OfParameter n (kind_of t d.of)) s t h)

pub take_parameters : (s : Scope) (n : ℕ) (ps : List PlainParameter) → take (length s) (with_parameters s n ps) ≡ s
take_parameters s n ps = still_first s s n ps (take_all s)

-- ---- what came before, the last one first

or_false : (a b : Bool) → (a || (b || false)) ≡ (b || a)
or_false true true = refl
or_false true false = refl
or_false false true = refl
or_false false false = refl

pub any_reverse : {A : Type 0} (f : A → Bool) (xs : List A) → list_any f (reverse xs) ≡ list_any f xs
any_reverse f [] = refl
any_reverse f (x ∷ xs) =
    ap (list_any f) (reverse-append (x ∷ []) xs)
    ∙ list_any-append f (reverse xs) (x ∷ [])
    ∙ ap (λ b. b || (f x || false)) (any_reverse f xs)
    ∙ or_false (list_any f xs) (f x)

pub reverse_next : {A : Type 0} (xs : List A) (i : ℕ) (x : A) → x ≡ get_or xs i x → i < length xs → reverse (take (i + 1) xs) ≡ x ∷ reverse (take i xs)
reverse_next xs i x is low =
    ap reverse (take_more xs i x low ∙ ap (λ y. take i xs ++ y ∷ []) (sym is))
    ∙ reverse-append (take i xs) (x ∷ [])

-- ---- sizes and places

pub bracketed_is : (ps : List PlainParameter) → bracketed_size parameter_size ps ≡ bracket ps + listed_size parameter_size ps + bracket ps
bracketed_is [] = refl
bracketed_is (p ∷ ps) = omega arith

pub bracketed_place : (s : Scope) (c : Bool) (at : ℕ) (ps : List PlainParameter) → parameters_faults s c 0 (at + bracket ps) ps ≡ parameters_faults s c 0 (at + 1) ps
bracketed_place s c at [] = refl
bracketed_place s c at (p ∷ ps) = refl

-- ---- the faults of an entry

abbrev entry_rest : Scope → List PlainTransition → List (List Bytes) → ℕ → PlainEntry → List Fault
entry_rest s ts tasks at e =
    parameters_faults s (is_controlled e.kind) 0 (at + 3) e.parameters
    ++ (where_wrong (is_large s e) at 17
    ++ (where_wrong (not (list_any (λ t. agrees e t.entry) ts)) at 13
    ++ where_wrong (is_controlled e.kind && not (has_task tasks e.name)) at 16))

any_back : {A B : Type 0} (f : B → Bool) (h : A → B) (xs : List A) → list_any f (map h xs) ≡ list_any f (map h (reverse xs))
any_back f h xs = any_map f h xs ∙ sym (any_reverse (λ x. f (h x)) xs) ∙ sym (any_map f h (reverse xs))

-- what came before counts in any order
pub before_reversed : {A : Type 0} (s : Scope) (v : A → PlainEntry) (before : List A) (ts : List PlainTransition) (tasks : List (List Bytes)) (at : ℕ) (e : PlainEntry) →
    entry_faults s (map v before) ts tasks at e ≡ entry_faults s (map v (reverse before)) ts tasks at e
before_reversed s v before ts tasks at e =
    ap (λ b. where_wrong b (at + 1) 11 ++ entry_rest s ts tasks at e) (any_back (clashes e) v before)

-- an entry by its parts
pub entry_noted : (s : Scope) (before : List PlainEntry) (ts : List PlainTransition) (tasks : List (List Bytes)) (at place : ℕ) (e : PlainEntry) (a b c d : Bool) (o p q r u z : Option Fault) →
    p ≡ keep o (where_wrong a (at + 1) 11) → q ≡ keep p (parameters_faults s (is_controlled e.kind) 0 place e.parameters) → r ≡ keep q (where_wrong b at 17) → u ≡ keep r (where_wrong c at 13) → z ≡ keep u (where_wrong d at 16) →
    place ≡ at + 3 → a ≡ list_any (clashes e) before → b ≡ is_large s e → c ≡ not (list_any (λ t. agrees e t.entry) ts) → d ≡ (is_controlled e.kind && not (has_task tasks e.name)) →
    z ≡ keep o (entry_faults s before ts tasks at e)
entry_noted s before ts tasks at place e a b c d o p q r u z first second third fourth fifth here clash large missing free =
    keep_five o p q r u z
    (where_wrong (list_any (clashes e) before) (at + 1) 11)
    (parameters_faults s (is_controlled e.kind) 0 (at + 3) e.parameters)
    (where_wrong (is_large s e) at 17)
    (where_wrong b at 17)
    (where_wrong (not (list_any (λ t. agrees e t.entry) ts)) at 13)
    (where_wrong (is_controlled e.kind && not (has_task tasks e.name)) at 16)
    (first ∙ ap (λ w. keep o (where_wrong w (at + 1) 11)) clash)
    (second ∙ ap (λ k. keep p (parameters_faults s (is_controlled e.kind) 0 k e.parameters)) here)
    third
    (ap (λ w. where_wrong w at 17) large)
    (fourth ∙ ap (λ w. keep r (where_wrong w at 13)) missing)
    (fifth ∙ ap (λ w. keep u (where_wrong w at 16)) free)

-- the faults of an entry, and of those after it
pub entry_kept : (s : Scope) (before : List PlainEntry) (ts : List PlainTransition) (tasks : List (List Bytes)) (at after : ℕ) (e : PlainEntry) (es : List PlainEntry) (o z : Option Fault) →
    z ≡ keep o (entry_faults s before ts tasks at e) → after ≡ at + entry_size e →
    keep z (entries_faults s (e ∷ before) ts tasks after es) ≡ keep o (entries_faults s before ts tasks at (e ∷ es))
entry_kept s before ts tasks at after e es o z noted place =
    ap (λ k. keep z (entries_faults s (e ∷ before) ts tasks k es)) place
    ∙ ap (λ x. keep x (entries_faults s (e ∷ before) ts tasks (at + entry_size e) es)) noted
    ∙ sym (keep_append o (entry_faults s before ts tasks at e) (entries_faults s (e ∷ before) ts tasks (at + entry_size e) es))

pub not_missing : (w : Bool) (e : PlainEntry) (xs : List Transition) → w ≡ list_any (λ t. agrees e (view_entry t.entry)) xs → not w ≡ not (list_any (λ t. agrees e t.entry) (map view_transition xs))
not_missing w e xs is = ap not (is ∙ sym (any_map (λ t. agrees e t.entry) view_transition xs))

pub clash_is : (w : Bool) (e : PlainEntry) (xs : List Entry) → w ≡ list_any (λ d. clashes e (view_entry d)) xs → w ≡ list_any (clashes e) (map view_entry xs)
clash_is w e xs is = is ∙ sym (any_map (clashes e) view_entry xs)

-- ---- the faults of a transition

-- what came before counts in any order
pub turned : {A : Type 0} (s : Scope) (es : List PlainEntry) (v : A → PlainTransition) (before : List A) (at : ℕ) (t : PlainTransition) →
    transition_faults s es (map v before) at t ≡ transition_faults s es (map v (reverse before)) at t
turned s es v before at t =
    ap (λ b. head_faults es (at + 1) t.entry ++ (where_wrong b at 14 ++ inside_faults s at t)) (any_back (λ b. agrees t.entry b.entry) v before)

-- a transition by its parts
pub transition_noted : (s : Scope) (es : List PlainEntry) (before : List PlainTransition) (at : ℕ) (t : PlainTransition) (a : Bool) (o p q z : Option Fault) →
    p ≡ keep o (head_faults es (at + 1) t.entry) → q ≡ keep p (where_wrong a at 14) → z ≡ keep q (inside_faults s at t) → a ≡ list_any (λ b. agrees t.entry b.entry) before →
    z ≡ keep o (transition_faults s es before at t)
transition_noted s es before at t a o p q z first second third again =
    keep_three o p q z (head_faults es (at + 1) t.entry) (where_wrong a at 14) (where_wrong (list_any (λ b. agrees t.entry b.entry) before) at 14) (inside_faults s at t)
    first (ap (λ w. where_wrong w at 14) again) second third

-- the faults of a transition, and of those after it
pub transition_kept : (s : Scope) (es : List PlainEntry) (before : List PlainTransition) (at after : ℕ) (t : PlainTransition) (ts : List PlainTransition) (o z : Option Fault) →
    z ≡ keep o (transition_faults (with_parameters s 0 t.entry.parameters) es before at t) → after ≡ at + transition_size t →
    keep z (transitions_faults s es (t ∷ before) after ts) ≡ keep o (transitions_faults s es before at (t ∷ ts))
transition_kept s es before at after t ts o z noted place =
    let here = transition_faults (with_parameters s 0 t.entry.parameters) es before at t in
    ap (λ k. keep z (transitions_faults s es (t ∷ before) k ts)) place
    ∙ ap (λ x. keep x (transitions_faults s es (t ∷ before) (at + transition_size t) ts)) noted
    ∙ sym (keep_append o here (transitions_faults s es (t ∷ before) (at + transition_size t) ts))

pub again_is : (w : Bool) (e : PlainEntry) (xs : List Transition) → w ≡ list_any (λ t. agrees e (view_entry t.entry)) xs → w ≡ list_any (λ t. agrees e t.entry) (map view_transition xs)
again_is w e xs is = is ∙ sym (any_map (λ t. agrees e t.entry) view_transition xs)

-- what stands behind a head, by its parts
pub inside_noted : (s : Scope) (at here after : ℕ) (t : PlainTransition) (o p z : Option Fault) → p ≡ keep o (pre_faults s t.entry.kind here t.pre) → z ≡ keep p (statements_faults s 0 (after + 1) t.eff) →
    here ≡ at + entry_size t.entry → after ≡ here + pre_size t.pre → z ≡ keep o (inside_faults s at t)
inside_noted s at here after t o p z first second place next =
    let behind_pre : after ≡ at + entry_size t.entry + pre_size t.pre = omega (arith, place, next) in
    keep_both o p z (pre_faults s t.entry.kind (at + entry_size t.entry) t.pre) (statements_faults s 0 (after + 1) t.eff) (statements_faults s 0 (at + entry_size t.entry + pre_size t.pre + 1) t.eff)
    (first ∙ ap (λ k. keep o (pre_faults s t.entry.kind k t.pre)) place)
    (ap (λ k. statements_faults s 0 (k + 1) t.eff) behind_pre) second
