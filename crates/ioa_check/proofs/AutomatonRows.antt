-- Automata one after the other.
use Rattle.std.proofs.Common.{◌≡◌, ℕ, ◌+◌, ◌||◌, Bool, true, false, bytes_eq, Option, List, [], ◌∷◌, ◌++◌, map, refl, ap, sym, ◌∙◌}
use Rattle.std.proofs.lemmas.List.{append_assoc}
use Rattle.std.proofs.lemmas.List.Folds.{list_any-append}
use Rattle.std.specs.List.{list_any}
use Rattle.std.specs.Option.{is_some}
use Rattle.terms.specs.TermTree.{TermTree}
use Rattle.ioa_trees.specs.Trees.{Bytes, PlainAutomaton}
use Rattle.ioa_trees.specs.AutomatonRules.{MeantAutomaton, around, body_faults, formal_kinds, inside, locals, meaning_of, place_of, with_variables}
use Rattle.ioa_trees.specs.EntryRules.{Meant, meant_by}
use Rattle.ioa_trees.specs.Faults.{Fault, keep, where_wrong}
use Rattle.ioa_trees.specs.Kinds.{Kind}
use Rattle.ioa_trees.specs.Scopes.{Scope, named}
use Rattle.ioa_trees.specs.Sizes.{automaton_size}
use Rattle.ioa_trees.specs.SourceRules.{automata_faults, meanings_of, with_automata, with_automaton}
use Rattle.ioa_check.specs.Bodies.{automaton_faults}
use Rattle.ioa_check.specs.AutomatonParts.{kind_in, start_in}
use Rattle.ioa_check.specs.Sets.{Adds, AreNames}
use Rattle.ioa_typing.proofs.Keeps.{keep_append, keep_both}
use Rattle.ioa_check.proofs.Lists.{or_false}

-- names that were added to none
pub from_none : (after names none : List Bytes) → none ≡ [] → Adds after names none → AreNames after names
from_none after names none is adds = λ q. adds q ∙ ap (λ xs. list_any (bytes_eq q) names || list_any (bytes_eq q) xs) is ∙ or_false (list_any (bytes_eq q) names)

abbrev built : Bytes → List (Option Kind) → List Meant → List (Option Kind) → List (Option TermTree) → List (List ℕ) → MeantAutomaton
built name fs es vs ts ps = record { name = name; formals = fs; entries = es; variables = vs; start = ts; tasks = ps }

-- what an automaton means, by its parts
pub meant_is : (s t u : Scope) (a : PlainAutomaton) (name : Bytes) (fs vs : List (Option Kind)) (es : List Meant) (ts : List (Option TermTree)) (ps : List (List ℕ)) →
    name ≡ a.name → fs ≡ formal_kinds s 0 a.formals → es ≡ map (meant_by u) a.transitions → vs ≡ map (kind_in t) a.variables → ts ≡ map (start_in t) a.variables → ps ≡ map (λ x. map (λ q. place_of q 0 a.transitions) x) a.tasks →
    t ≡ inside s a → u ≡ with_variables t t 0 a.variables →
    built name fs es vs ts ps ≡ meaning_of s a
meant_is s t u a name fs vs es ts ps named formals entries kinds starts tasks scope larger =
    let seen : u ≡ around s a = larger ∙ ap (λ x. with_variables x x 0 a.variables) scope in
    let e : es ≡ map (meant_by (around s a)) a.transitions = entries ∙ ap (λ x. map (meant_by x) a.transitions) seen in
    let k : vs ≡ map (kind_in (inside s a)) a.variables = kinds ∙ ap (λ x. map (kind_in x) a.variables) scope in
    let b : ts ≡ map (start_in (inside s a)) a.variables = starts ∙ ap (λ x. map (start_in x) a.variables) scope in
    λ i. record { name = named i; formals = formals i; entries = e i; variables = k i; start = b i; tasks = tasks i }

-- ---- one automaton

pub automaton_noted : (s t : Scope) (used : List Bytes) (n at : ℕ) (a : PlainAutomaton) (taken : Bool) (o p z : Option Fault) →
    p ≡ keep o (where_wrong taken (at + 1) 11) → taken ≡ (is_some (named a.name s) || list_any (bytes_eq a.name) used) →
    z ≡ keep p (body_faults t at a) → t ≡ with_automaton s n a → z ≡ keep o (automaton_faults s used n at a)
automaton_noted s t used n at a taken o p z first is second scope =
    keep_both o p z (where_wrong (is_some (named a.name s) || list_any (bytes_eq a.name) used) (at + 1) 11) (body_faults t at a) (body_faults (with_automaton s n a) at a)
    (first ∙ ap (λ b. keep o (where_wrong b (at + 1) 11)) is)
    (ap (λ x. body_faults x at a) scope) second

-- ---- all automata

or_turned : (a b : Bool) → (a || b) ≡ (b || a)
or_turned true true = refl
or_turned true false = refl
or_turned false true = refl
or_turned false false = refl

added_behind : (after names before : List Bytes) → Adds after names before → AreNames after (before ++ names)
added_behind after names before adds = λ q. adds q ∙ or_turned (list_any (bytes_eq q) names) (list_any (bytes_eq q) before) ∙ sym (list_any-append (bytes_eq q) before names)

same_behind : (names before others : List Bytes) → AreNames before others → AreNames (before ++ names) (others ++ names)
same_behind names before others same = λ q. list_any-append (bytes_eq q) before names ∙ ap (λ b. b || list_any (bytes_eq q) names) (same q) ∙ sym (list_any-append (bytes_eq q) others names)

pub automata_same : (s : Scope) (U V : List Bytes) (n at : ℕ) (xs : List PlainAutomaton) → AreNames U V → automata_faults s U n at xs ≡ automata_faults s V n at xs
automata_same s U V n at [] same = refl
automata_same s U V n at (a ∷ xs) same =
    let body = body_faults (with_automaton s n a) at a in
    ap (λ b. where_wrong (is_some (named a.name s) || b) (at + 1) 11 ++ (body ++ automata_faults (with_automaton s n a) (U ++ locals a) (n + 1) (at + automaton_size a) xs)) (same a.name)
    ∙ ap (λ fs. where_wrong (is_some (named a.name s) || list_any (bytes_eq a.name) V) (at + 1) 11 ++ (body ++ fs)) (automata_same (with_automaton s n a) (U ++ locals a) (V ++ locals a) (n + 1) (at + automaton_size a) xs (same_behind (locals a) U V same))

-- the faults of an automaton, and of those after it
pub automaton_kept : (s t : Scope) (before after : List Bytes) (n m at next : ℕ) (a : PlainAutomaton) (xs : List PlainAutomaton) (o p : Option Fault) →
    p ≡ keep o (automaton_faults s before n at a) → t ≡ with_automaton s n a → Adds after (locals a) before → m ≡ n + 1 → next ≡ at + automaton_size a →
    keep p (automata_faults t after m next xs) ≡ keep o (automata_faults s before n at (a ∷ xs))
automaton_kept s t before after n m at next a xs o p noted scope adds number place =
    let tail : List Fault = automata_faults (with_automaton s n a) (before ++ locals a) (n + 1) (at + automaton_size a) xs in
    let joined : automaton_faults s before n at a ++ tail ≡ automata_faults s before n at (a ∷ xs) = simp append_assoc refl in
    ap (λ k. keep p (automata_faults t after m k xs)) place
    ∙ ap (λ k. keep p (automata_faults t after k (at + automaton_size a) xs)) number
    ∙ ap (λ x. keep p (automata_faults x after (n + 1) (at + automaton_size a) xs)) scope
    ∙ ap (keep p) (automata_same (with_automaton s n a) after (before ++ locals a) (n + 1) (at + automaton_size a) xs (added_behind after (locals a) before adds))
    ∙ ap (λ x. keep x tail) noted
    ∙ sym (keep_append o (automaton_faults s before n at a) tail)
    ∙ ap (keep o) joined

pub automata_named : (s t : Scope) (n m : ℕ) (a : PlainAutomaton) (xs : List PlainAutomaton) → t ≡ with_automaton s n a → m ≡ n + 1 → with_automata t m xs ≡ with_automata s n (a ∷ xs)
automata_named s t n m a xs scope number = ap (λ x. with_automata x m xs) scope ∙ ap (λ k. with_automata (with_automaton s n a) k xs) number

pub meanings_left : (s t : Scope) (n m : ℕ) (a : PlainAutomaton) (xs : List PlainAutomaton) → t ≡ with_automaton s n a → m ≡ n + 1 → meanings_of t m xs ≡ meanings_of (with_automaton s n a) (n + 1) xs
meanings_left s t n m a xs scope number = ap (λ x. meanings_of x m xs) scope ∙ ap (λ k. meanings_of (with_automaton s n a) k xs) number
