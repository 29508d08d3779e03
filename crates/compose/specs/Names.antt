-- The names of the actions that the components of a source use, and the types of their parameters.
use Rattle.std.specs.Prelude.{◌≡◌, ℕ, Bool, Option, Some, None, List, [], ◌∷◌, ◌++◌, map, sum_by, length, slice_get, bytes_eq, if◌then◌else◌}
use Rattle.std.specs.Cmp.Lexicographic.{slice_cmp}
use Rattle.std.specs.List.{list_any}
use Rattle.std.specs.List.Sorted.{IsStrictlySortedBy}
use Rattle.std.specs.Ordering.{nat_cmp}
use Rattle.terms.specs.ShapeTree as shape
use Rattle.terms.specs.ShapeTree.{ShapeTree}
use Rattle.ioa_trees.specs.Trees.{Bytes}
use Rattle.ioa_trees.specs.Kinds.{Kind, shape_of}
use Rattle.ioa_trees.specs.EntryRules.{Meant, Slot, Fixed, Free}
use Rattle.ioa_trees.specs.AutomatonRules.{MeantAutomaton}
use Rattle.ioa_trees.specs.SourceRules.{MeantComponent, MeantSource}

-- the name of an entry, and the types of its parameters
pub record Signature : Type 0 where
  pub name : Bytes
  pub types : List ShapeTree

-- the type of a formal; whole numbers where there is no such formal, which is in no source without faults
abbrev pub formal_type : Option (Option Kind) → ShapeTree
formal_type (Some (Some k)) = shape_of k
formal_type _ = shape.Int

-- the type of a parameter
abbrev pub type_in : List (Option Kind) → Option Slot → ShapeTree
type_in formals None = shape.Int
type_in formals (Some (Fixed n)) = formal_type (slice_get formals n)
type_in formals (Some (Free k)) = shape_of k

abbrev pub signature_of : List (Option Kind) → Meant → Signature
signature_of formals e = record { name = e.name; types = map (type_in formals) e.parameters }

abbrev pub signatures_in : Option MeantAutomaton → List Signature
signatures_in None = []
signatures_in (Some a) = map (signature_of a.formals) a.entries

-- the automaton of a component, where it has one
abbrev pub automaton_at : List MeantAutomaton → Option ℕ → Option MeantAutomaton
automaton_at automata None = None
automaton_at automata (Some n) = slice_get automata n

-- the entries of the components' automata, one component after the other
abbrev pub signatures_of : List MeantAutomaton → List MeantComponent → List Signature
signatures_of automata [] = []
signatures_of automata (c ∷ cs) = signatures_in (automaton_at automata c.automaton) ++ signatures_of automata cs

-- the names that components use
abbrev pub used_names : MeantSource → List Bytes
used_names m = map (λ s. s.name) (signatures_of m.automata m.components)

-- the types of the first entry of a name
abbrev pub first_in : List Signature → Bytes → Option (List ShapeTree)
first_in [] q = None
first_in (s ∷ ss) q = if bytes_eq q s.name then Some s.types else first_in ss q

abbrev pub none_if_missing : Option (List ShapeTree) → List ShapeTree
none_if_missing None = []
none_if_missing (Some types) = types

abbrev pub first_types : MeantSource → Bytes → List ShapeTree
first_types m q = none_if_missing (first_in (signatures_of m.automata m.components) q)

-- the name is one of these
abbrev pub is_among : List Bytes → Bytes → Bool
is_among names q = list_any (bytes_eq q) names

-- outputs of this name are hidden
abbrev pub is_hidden : MeantSource → Bytes → Bool
is_hidden m q = is_among m.hidden q

-- each name comes before all that follow it, in the order of bytes
abbrev pub IsRising : List Bytes → Type 0
IsRising names = IsStrictlySortedBy (slice_cmp nat_cmp) names

-- the table of names: in the order of bytes, and just the names that components use
pub record AreNames (names : List Bytes) (m : MeantSource) : Type 0 where
  pub rising : IsRising names
  pub used : (q : Bytes) → list_any (bytes_eq q) names ≡ list_any (bytes_eq q) (used_names m)

-- how many entries the automata have
abbrev pub entries_in : List MeantAutomaton → ℕ
entries_in automata = sum_by (λ a. length a.entries) automata
