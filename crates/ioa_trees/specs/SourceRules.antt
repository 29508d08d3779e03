-- Whole sources: what they mean without their names, and their faults.
use Rattle.std.specs.Prelude.{ℕ, ◌+◌, not, Option, Some, None, nat_eq, bytes_eq, List, [], ◌∷◌, ◌++◌, length, slice_get}
use Rattle.std.specs.List.{list_any}
use Rattle.terms.specs.TermTree.{TermTree}
use Rattle.ioa_trees.specs.Trees as tree
use Rattle.ioa_trees.specs.Trees.{Bytes, PlainTerm, PlainTypeBody, PlainTypeDefinition, PlainAutomaton, PlainComponent, PlainComposed, PlainSource}
use Rattle.ioa_trees.specs.Faults.{Fault, where_wrong}
use Rattle.ioa_trees.specs.Kinds.{Kind, Enum}
use Rattle.ioa_trees.specs.Scopes.{Scope, OfType, OfMember, OfAutomaton, named, declare, doubled, taken_before, automaton_meant}
use Rattle.ioa_trees.specs.Sizes.{definition_size, automaton_size, component_size, listed_size, size}
use Rattle.ioa_trees.specs.TermRules.{judge, faults, unfit}
use Rattle.ioa_trees.specs.TypeRules.{kind_of, type_faults}
use Rattle.ioa_trees.specs.ValueRules.{value_in}
use Rattle.ioa_trees.specs.AutomatonRules.{MeantAutomaton, body_faults, locals, meaning_of}

-- ---- types

-- the members of an enumeration come into scope one after the other
abbrev pub with_members : Scope → (first count at : ℕ) → List Bytes → Scope
with_members s first count at [] = s
with_members s first count at (q ∷ qs) = with_members (declare q (OfMember at first count) s) first count (at + 1) qs

abbrev pub members_faults : Scope → (first count member : ℕ) → ℕ → List Bytes → List Fault
members_faults s first count member at [] = []
members_faults s first count member at (q ∷ qs) =
    doubled s at q ++ members_faults (declare q (OfMember member first count) s) first count (member + 1) (at + 2) qs

-- what stands in scope after a definition; so many members came before it
abbrev pub with_definition : Scope → ℕ → PlainTypeDefinition → Scope
with_definition s n d = by_body d.body
  where
    by_body : PlainTypeBody → Scope
    by_body (tree.Same t) = declare d.name (OfType (kind_of s t)) s
    by_body (tree.Enumeration qs) = with_members (declare d.name (OfType (Some (Enum n (length qs)))) s) n (length qs) n qs

-- the members of all definitions
abbrev pub members_in : PlainTypeBody → List Bytes
members_in (tree.Same t) = []
members_in (tree.Enumeration qs) = qs

abbrev pub with_definitions : Scope → ℕ → List PlainTypeDefinition → Scope
with_definitions s n [] = s
with_definitions s n (d ∷ ds) = with_definitions (with_definition s n d) (n + length (members_in d.body)) ds

abbrev pub definition_faults : Scope → ℕ → ℕ → PlainTypeDefinition → List Fault
definition_faults s n at d = doubled s (at + 1) d.name ++ by_body d.body
  where
    by_body : PlainTypeBody → List Fault
    by_body (tree.Same t) = type_faults s (at + 3) t
    by_body (tree.Enumeration qs) = members_faults (declare d.name (OfType (Some (Enum n (length qs)))) s) n (length qs) n (at + 5) qs

abbrev pub definitions_faults : Scope → ℕ → ℕ → List PlainTypeDefinition → List Fault
definitions_faults s n at [] = []
definitions_faults s n at (d ∷ ds) =
    definition_faults s n at d ++ definitions_faults (with_definition s n d) (n + length (members_in d.body)) (at + definition_size d) ds

abbrev pub definitions_size : List PlainTypeDefinition → ℕ
definitions_size [] = 0
definitions_size (d ∷ ds) = definition_size d + definitions_size ds

abbrev pub all_members : List PlainTypeDefinition → List Bytes
all_members [] = []
all_members (d ∷ ds) = members_in d.body ++ all_members ds

-- ---- automata

abbrev pub with_automaton : Scope → ℕ → PlainAutomaton → Scope
with_automaton s n a = declare a.name (OfAutomaton n) s

abbrev pub with_automata : Scope → ℕ → List PlainAutomaton → Scope
with_automata s n [] = s
with_automata s n (a ∷ rest) = with_automata (with_automaton s n a) (n + 1) rest

abbrev pub automata_faults : Scope → List Bytes → ℕ → ℕ → List PlainAutomaton → List Fault
automata_faults s used n at [] = []
automata_faults s used n at (a ∷ rest) =
    taken_before s used (at + 1) a.name
    ++ (body_faults (with_automaton s n a) at a
    ++ automata_faults (with_automaton s n a) (used ++ locals a) (n + 1) (at + automaton_size a) rest)

abbrev pub automata_size : List PlainAutomaton → ℕ
automata_size [] = 0
automata_size (a ∷ rest) = automaton_size a + automata_size rest

abbrev pub all_locals : List PlainAutomaton → List Bytes
all_locals [] = []
all_locals (a ∷ rest) = locals a ++ all_locals rest

abbrev pub meanings_of : Scope → ℕ → List PlainAutomaton → List MeantAutomaton
meanings_of s n [] = []
meanings_of s n (a ∷ rest) = meaning_of (with_automaton s n a) a ∷ meanings_of (with_automaton s n a) (n + 1) rest

-- ---- components

abbrev pub arguments_faults : Scope → ℕ → List PlainTerm → List Fault
arguments_faults s at [] = []
arguments_faults s at (t ∷ ts) = faults s at t ++ arguments_faults s (at + size t + 1) ts

-- 12: an argument that doesn't fit its formal
abbrev pub unfit_in : Option Kind → Scope → ℕ → PlainTerm → List Fault
unfit_in None s at t = []
unfit_in (Some k) s at t = unfit k at (judge s t)

abbrev pub misfit_arguments : Scope → List (Option Kind) → ℕ → List PlainTerm → List Fault
misfit_arguments s (k ∷ ks) at (t ∷ ts) = unfit_in k s at t ++ misfit_arguments s ks (at + size t + 1) ts
misfit_arguments s _ at _ = []

-- 12: another number of arguments, at the automaton's name; nothing is compared where the automaton isn't known
abbrev pub compared_with : Scope → Option (List (Option Kind)) → ℕ → PlainComponent → List Fault
compared_with s None at c = []
compared_with s (Some ks) at c = where_wrong (not (nat_eq (length ks) (length c.arguments))) (at + 2) 12 ++ misfit_arguments s ks (at + 4) c.arguments

-- the kinds of the formals of an automaton
abbrev pub formals_at : List MeantAutomaton → Option ℕ → Option (List (Option Kind))
formals_at table None = None
formals_at table (Some n) = of (slice_get table n)
  where
    of : Option MeantAutomaton → Option (List (Option Kind))
    of None = None
    of (Some a) = Some a.formals

abbrev pub component_faults : Scope → List MeantAutomaton → List Bytes → ℕ → PlainComponent → List Fault
component_faults s table before at c =
    where_wrong (list_any (bytes_eq c.name) before) at 11
    ++ (arguments_faults s (at + 4) c.arguments
    ++ compared_with s (formals_at table (automaton_meant (named c.automaton s))) at c)

abbrev pub components_faults : Scope → List MeantAutomaton → List Bytes → ℕ → List PlainComponent → List Fault
components_faults s table before at [] = []
components_faults s table before at (c ∷ cs) =
    component_faults s table before at c ++ components_faults s table (c.name ∷ before) (at + component_size c + 1) cs

pub record MeantComponent : Type 0 where
  pub name : Bytes
  -- the number of its automaton, where it is known
  pub automaton : Option ℕ
  pub arguments : List (Option TermTree)

abbrev pub placed_argument : Scope → Option Kind → PlainTerm → Option TermTree
placed_argument s None t = None
placed_argument s (Some k) t = value_in k (judge s t)

abbrev pub placed_arguments : Scope → List (Option Kind) → List PlainTerm → List (Option TermTree)
placed_arguments s (k ∷ ks) (t ∷ ts) = placed_argument s k t ∷ placed_arguments s ks ts
placed_arguments s _ _ = []

abbrev pub arguments_of : Scope → Option (List (Option Kind)) → List PlainTerm → List (Option TermTree)
arguments_of s None ts = []
arguments_of s (Some ks) ts = placed_arguments s ks ts

abbrev pub component_of : Scope → List MeantAutomaton → PlainComponent → MeantComponent
component_of s table c = record {
  name = c.name;
  automaton = automaton_meant (named c.automaton s);
  arguments = arguments_of s (formals_at table (automaton_meant (named c.automaton s))) c.arguments;
}

abbrev pub components_of : Scope → List MeantAutomaton → List PlainComponent → List MeantComponent
components_of s table [] = []
components_of s table (c ∷ cs) = component_of s table c ∷ components_of s table cs

-- ---- the composed automaton

-- 11: a name that stood before; the first one stands at this place, and a comma between two
abbrev pub hidden_faults : List Bytes → ℕ → List Bytes → List Fault
hidden_faults before at [] = []
hidden_faults before at (q ∷ qs) = where_wrong (list_any (bytes_eq q) before) at 11 ++ hidden_faults (q ∷ before) (at + 2) qs

-- the place of the first hidden name, behind the word; the first token of the composed automaton has this number
abbrev pub hidden_at : ℕ → PlainComposed → ℕ
hidden_at at c = at + 3 + listed_size component_size c.components + 1

abbrev pub composed_faults : Scope → List Bytes → List MeantAutomaton → ℕ → PlainComposed → List Fault
composed_faults s used table at c =
    taken_before s used (at + 1) c.name
    ++ (components_faults s table [] (at + 3) c.components
    ++ hidden_faults [] (hidden_at at c) c.hidden)

-- ---- the whole

abbrev pub types_scope : PlainSource → Scope
types_scope x = with_definitions [] 0 x.types

abbrev pub whole_scope : PlainSource → Scope
whole_scope x = with_automata (types_scope x) 0 x.automata

abbrev pub table_of : PlainSource → List MeantAutomaton
table_of x = meanings_of (types_scope x) 0 x.automata

abbrev pub composed_at : PlainSource → ℕ
composed_at x = definitions_size x.types + automata_size x.automata

-- all faults of a source
abbrev pub source_faults : PlainSource → List Fault
source_faults x =
    definitions_faults [] 0 0 x.types
    ++ (automata_faults (types_scope x) [] 0 (definitions_size x.types) x.automata
    ++ composed_faults (whole_scope x) (all_locals x.automata) (table_of x) (composed_at x) x.composed)

pub record MeantSource : Type 0 where
  pub members : List Bytes
  pub automata : List MeantAutomaton
  pub components : List MeantComponent
  -- the names of outputs to hide, as they are written
  pub hidden : List Bytes

-- what a source means
abbrev pub source_meaning : PlainSource → MeantSource
source_meaning x = record {
  members = all_members x.types;
  automata = table_of x;
  components = components_of (whole_scope x) (table_of x) x.composed.components;
  hidden = x.composed.hidden;
}
