-- A source without faults has a whole meaning.
use Rattle.std.proofs.Common.{◌≡◌, ℕ, ◌+◌, zero, suc, not, Option, Some, None, IsSome, IfSome, nat_eq, bytes_eq, List, [], ◌∷◌, ◌++◌, length, slice_get, refl, subst, sym}
use Rattle.std.specs.List.{list_any, All}
use Rattle.std.proofs.lemmas.List.Elements.{All-nil, All-cons, All-head, All-tail}
use Rattle.terms.specs.TermTree.{TermTree}
use Rattle.ioa_trees.specs.Trees as tree
use Rattle.ioa_trees.specs.Trees.{Bytes, PlainTerm, PlainTypeBody, PlainTypeDefinition, PlainAutomaton, PlainComponent, PlainSource}
use Rattle.ioa_trees.specs.Faults.{where_wrong}
use Rattle.ioa_trees.specs.Kinds.{Kind, Enum}
use Rattle.ioa_trees.specs.Scopes.{Scope, OfType, OfMember, named, declare, doubled, taken_before, automaton_meant}
use Rattle.ioa_trees.specs.Sizes.{size, definition_size, automaton_size, component_size}
use Rattle.ioa_trees.specs.TermRules.{judge, faults}
use Rattle.ioa_trees.specs.TypeRules.{kind_of, type_faults}
use Rattle.ioa_trees.specs.AutomatonRules.{MeantAutomaton, body_faults, locals, meaning_of}
use Rattle.ioa_trees.specs.SourceRules.{with_members, with_definition, members_in, with_definitions, definition_faults, definitions_faults, definitions_size, with_automaton, with_automata, automata_faults, all_locals, meanings_of, arguments_faults, unfit_in, misfit_arguments, compared_with, formals_at, component_faults, components_faults, hidden_faults, hidden_at, placed_argument, placed_arguments, arguments_of, component_of, components_of, types_scope, whole_scope, table_of, composed_at, source_faults, source_meaning}
use Rattle.ioa_trees.specs.Meant.{AllMeant, AllSome, IsWholeAutomaton, IsWholeComponent, IsWholeSource}
use Rattle.ioa_trees.proofs.NoFaults.{nil_left, nil_right}
use Rattle.ioa_trees.proofs.TypesMeant.{kind_if}
use Rattle.ioa_trees.proofs.TermsMeant.{judged_if}
use Rattle.ioa_trees.proofs.ValuesMeant.{value_ok}
use Rattle.ioa_trees.proofs.ScopesMeant.{with_type, with_member, with_automaton_meant}
use Rattle.ioa_trees.proofs.AutomataMeant.{automaton_if}

-- ---- types

pub nothing_meant : AllMeant []
nothing_meant = record { types = λ q h. absurd (cc); values = λ q h. absurd (cc) }

members_if : (s : Scope) → AllMeant s → (first count at : ℕ) (qs : List Bytes) → AllMeant (with_members s first count at qs)
members_if s m first count at [] = m
members_if s m first count at (q ∷ qs) = members_if (declare q (OfMember at first count) s) (with_member q at first count s m) first count (at + 1) qs

abbrev definition : Bytes → PlainTypeBody → PlainTypeDefinition
definition q b = record { name = q; body = b }

definition_if : (s : Scope) → AllMeant s → (n at : ℕ) (q : Bytes) (b : PlainTypeBody) → definition_faults s n at (definition q b) ≡ [] → AllMeant (with_definition s n (definition q b))
definition_if s m n at q (tree.Same t) h = with_type q (kind_of s t) s m (kind_if s m (at + 3) t (nil_right (doubled s (at + 1) q) (type_faults s (at + 3) t) h))
definition_if s m n at q (tree.Enumeration qs) h = members_if (declare q (OfType (Some (Enum n (length qs)))) s) (with_type q (Some (Enum n (length qs))) s m refl) n (length qs) n qs

-- a scope stays meant with definitions without faults
pub definitions_if : (s : Scope) → AllMeant s → (n at : ℕ) (ds : List PlainTypeDefinition) → definitions_faults s n at ds ≡ [] → AllMeant (with_definitions s n ds)
definitions_if s m n at [] h = m
definitions_if s m n at (d ∷ ds) h =
    let r = with_definition s n d in let k = n + length (members_in d.body) in let p = at + definition_size d in
    let a = definition_faults s n at d in let b = definitions_faults r k p ds in
    definitions_if r (definition_if s m n at d.name d.body (nil_left a b h)) k p ds (nil_right a b h)

-- ---- automata

-- automata without faults have whole meanings, and the scope stays meant with them
pub automata_if : (s : Scope) → AllMeant s → (used : List Bytes) (n at : ℕ) (xs : List PlainAutomaton) → automata_faults s used n at xs ≡ [] → AllMeant (with_automata s n xs) × All IsWholeAutomaton (meanings_of s n xs)
automata_if s m used n at [] h = (m, All-nil IsWholeAutomaton)
automata_if s m used n at (x ∷ xs) h =
    let r = with_automaton s n x in let p = at + automaton_size x in
    let a = taken_before s used (at + 1) x.name in let b = body_faults r at x in let c = automata_faults r (used ++ locals x) (n + 1) p xs in
    let mr = with_automaton_meant x.name n s m in
    let u = nil_right a (b ++ c) h in
    let rest = automata_if r mr (used ++ locals x) (n + 1) p xs (nil_right b c u) in
    (rest.0, All-cons IsWholeAutomaton (meaning_of r x) (meanings_of r (n + 1) xs) (automaton_if r mr at x (nil_left b c u)) rest.1)

-- ---- components

argument_ok : (s : Scope) → AllMeant s → (k : Option Kind) → IsSome k → (at place : ℕ) (t : PlainTerm) → faults s at t ≡ [] → unfit_in k s place t ≡ [] → IsSome (placed_argument s k t)
argument_ok s m None i at place t h e = i
argument_ok s m (Some k) i at place t h e = value_ok k place (judge s t) (judged_if s m at t h) e

arguments_by : (s : Scope) → AllMeant s → (ks : List (Option Kind)) → AllSome ks → (at place : ℕ) (ts : List PlainTerm) → arguments_faults s at ts ≡ [] → misfit_arguments s ks place ts ≡ [] → AllSome (placed_arguments s ks ts)
arguments_by s m [] i at place ts h e = All-nil (λ (o : Option TermTree). IsSome o)
arguments_by s m (k ∷ ks) i at place [] h e = All-nil (λ (o : Option TermTree). IsSome o)
arguments_by s m (k ∷ ks) i at place (t ∷ ts) h e =
    let p = at + size t + 1 in let q = place + size t + 1 in
    let a = faults s at t in let b = arguments_faults s p ts in let c = unfit_in k s place t in let d = misfit_arguments s ks q ts in
    let here = argument_ok s m k (All-head (λ (o : Option Kind). IsSome o) k ks i) at place t (nil_left a b h) (nil_left c d e) in
    let rest = arguments_by s m ks (All-tail (λ (o : Option Kind). IsSome o) k ks i) p q ts (nil_right a b h) (nil_right c d e) in
    All-cons (λ (o : Option TermTree). IsSome o) (placed_argument s k t) (placed_arguments s ks ts) here rest

arguments_if : (s : Scope) → AllMeant s → (o : Option (List (Option Kind))) → IfSome o AllSome → (at : ℕ) (c : PlainComponent) → arguments_faults s (at + 4) c.arguments ≡ [] → compared_with s o at c ≡ [] → AllSome (arguments_of s o c.arguments)
arguments_if s m None i at c h e = All-nil (λ (o : Option TermTree). IsSome o)
arguments_if s m (Some ks) i at c h e =
    let a = where_wrong (not (nat_eq (length ks) (length c.arguments))) (at + 2) 12 in let b = misfit_arguments s ks (at + 4) c.arguments in
    arguments_by s m ks i (at + 4) (at + 4) c.arguments h (nil_right a b e)

found_there : {X : Type 0} (P : X → Type 0) (xs : List X) (n : ℕ) → All P xs → IfSome (slice_get xs n) P
found_there P [] n h = tt
found_there P (x ∷ xs) zero h = All-head P x xs h
found_there P (x ∷ xs) (suc n) h = found_there P xs n (All-tail P x xs h)

formals_by : (table : List MeantAutomaton) (n : ℕ) (o : Option MeantAutomaton) → slice_get table n ≡ o → IfSome o IsWholeAutomaton → IfSome (formals_at table (Some n)) AllSome
formals_by table n None e i =
    let none : formals_at table (Some n) ≡ None = rw e refl in
    subst (λ o. IfSome o AllSome) (sym none) tt
formals_by table n (Some a) e i =
    let some : formals_at table (Some n) ≡ Some a.formals = rw e refl in
    subst (λ o. IfSome o AllSome) (sym some) i.formals

formals_known : (table : List MeantAutomaton) → All IsWholeAutomaton table → (o : Option ℕ) → IfSome (formals_at table o) AllSome
formals_known table i None = tt
formals_known table i (Some n) = formals_by table n (slice_get table n) refl (found_there IsWholeAutomaton table n i)

components_if : (s : Scope) → AllMeant s → (table : List MeantAutomaton) → All IsWholeAutomaton table → (before : List Bytes) (at : ℕ) (cs : List PlainComponent) → components_faults s table before at cs ≡ [] → All IsWholeComponent (components_of s table cs)
components_if s m table i before at [] h = All-nil IsWholeComponent
components_if s m table i before at (c ∷ cs) h =
    let o = automaton_meant (named c.automaton s) in let p = at + component_size c + 1 in
    let a = component_faults s table before at c in let b = components_faults s table (c.name ∷ before) p cs in
    let d = where_wrong (list_any (bytes_eq c.name) before) at 11 in let e = arguments_faults s (at + 4) c.arguments in let f = compared_with s (formals_at table o) at c in
    let u = nil_right d (e ++ f) (nil_left a b h) in
    let here = arguments_if s m (formals_at table o) (formals_known table i o) at c (nil_left e f u) (nil_right e f u) in
    All-cons IsWholeComponent (component_of s table c) (components_of s table cs) here (components_if s m table i (c.name ∷ before) p cs (nil_right a b h))

-- ---- the whole

-- a source without faults has a whole meaning
pub source_if : (x : PlainSource) → source_faults x ≡ [] → IsWholeSource (source_meaning x)
source_if x h =
    let a = definitions_faults [] 0 0 x.types in
    let b = automata_faults (types_scope x) [] 0 (definitions_size x.types) x.automata in
    let c = taken_before (whole_scope x) (all_locals x.automata) (composed_at x + 1) x.composed.name in
    let d = components_faults (whole_scope x) (table_of x) [] (composed_at x + 3) x.composed.components in
    let e = hidden_faults [] (hidden_at (composed_at x) x.composed) x.composed.hidden in
    let u = nil_right a (b ++ (c ++ (d ++ e))) h in
    let v = nil_right c (d ++ e) (nil_right b (c ++ (d ++ e)) u) in
    let types = definitions_if [] nothing_meant 0 0 x.types (nil_left a (b ++ (c ++ (d ++ e))) h) in
    let automata = automata_if (types_scope x) types [] 0 (definitions_size x.types) x.automata (nil_left b (c ++ (d ++ e)) u) in
    record {
      automata = automata.1;
      components = components_if (whole_scope x) automata.0 (table_of x) automata.1 [] (composed_at x + 3) x.composed.components (nil_left d e v);
    }
