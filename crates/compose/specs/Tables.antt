-- Tables of names, and which automata components have.
use Rattle.std.specs.Prelude.{◌≡◌, ◌≤◌, ℕ, Bool, false, Option, Some, None, List, [], ◌∷◌, ◌+◌, map, length, slice_get, nat_eq, nat_lt, ◌&&◌, string_bytes, if◌then◌else◌}
use Rattle.std.specs.BTreeMap.{BTreeMap}
use Rattle.std.specs.Global.{Global}
use Rattle.std.specs.List.{list_any}
use Rattle.std.specs.declared.string.String.{String}
use Rattle.std.specs.declared.vec.Vec.{Vec}
use Rattle.terms.specs.ShapeTree.{ShapeTree, shape_tree}
use Rattle.terms.specs.declared.scalar.Shape.{Shape}
use Rattle.io_automata.specs.Automata.{Instance, absent}
use Rattle.plans.specs.Plans.{text_of, types_of}
use Rattle.io_automata.specs.declared.automaton.ActionName.{ActionName}
use Rattle.io_automata.specs.declared.automaton.Component.{Component}
use Rattle.terms.specs.declared.scalar.Scalar.{Scalar}
use Rattle.ioa_trees.specs.AutomatonRules.{MeantAutomaton}
use Rattle.ioa_trees.specs.SourceRules.{MeantComponent}
use Rattle.ioa_trees.specs.Trees.{Bytes}
use Rattle.compose.specs.Instances.{argument, built}
use Rattle.compose.specs.Names.{Signature, first_in, signatures_of}

abbrev pub either_of : Option (List ShapeTree) → Option (List ShapeTree) → Option (List ShapeTree)
either_of None types = types
either_of (Some types) others = Some types

-- a table to which names with their types were added, where the first types stay
abbrev pub Adds : List Signature → List Signature → List Signature → Type 0
Adds table before added = (q : Bytes) → first_in table q ≡ either_of (first_in before q) (first_in added q)

-- a name with its types, as a map and a table of actions have it
abbrev pub entry_signature : String Global × Vec Shape Global → Signature
entry_signature e = record { name = string_bytes e.0; types = map shape_tree e.1.items }

abbrev pub table : BTreeMap (String Global) (Vec Shape Global) → List Signature
table names = map entry_signature names.entries

abbrev pub action_signature : ActionName → Signature
action_signature name = record { name = text_of name; types = types_of name }

-- whether a component has the automaton of this number
abbrev pub is_at : ℕ → Option ℕ → Bool
is_at n None = false
is_at n (Some k) = nat_eq n k

abbrev pub has_automaton : ℕ → List MeantComponent → Bool
has_automaton n components = list_any (λ c. is_at n c.automaton) components

-- whether it was marked at this place
abbrev pub mark_at : List Bool → ℕ → Bool
mark_at marks n = marked (slice_get marks n)
  where
    marked : Option Bool → Bool
    marked None = false
    marked (Some b) = b

-- how many entries the automata have that are marked
abbrev pub marked_entries : List Bool → List MeantAutomaton → ℕ
marked_entries (b ∷ bs) (a ∷ automata) = (if b then length a.entries else 0) + marked_entries bs automata
marked_entries _ _ = 0

-- what is known of the names of the first components
pub record IsTable (automata : List MeantAutomaton) (seen : List MeantComponent) (names : List Signature) (marks : List Bool) : Type 0 where
  pub first : (q : Bytes) → first_in names q ≡ first_in (signatures_of automata seen) q
  pub marked : (n : ℕ) → mark_at marks n ≡ (nat_lt n (length automata) && has_automaton n seen)
  pub long : length marks ≡ length automata
  pub few : length names ≤ marked_entries marks automata

-- the automata from this number on; one that isn't marked has no entries
abbrev pub converted : List Bytes → List Bool → ℕ → List MeantAutomaton → List Instance
converted names marks n [] = []
converted names marks n (a ∷ automata) = (if mark_at marks n then built names [] (Some a) else absent) ∷ converted names marks (n + 1) automata

-- the number of a component's automaton, the one beyond the last where it has none, and the values of its formals
abbrev pub number_or : ℕ → Option ℕ → ℕ
number_or beyond None = beyond
number_or beyond (Some n) = n

abbrev pub parts_in : Component → ℕ × List Scalar
parts_in c = (c.automaton, c.formals.items)

abbrev pub meant_parts : ℕ → MeantComponent → ℕ × List Scalar
meant_parts beyond c = (number_or beyond c.automaton, map argument c.arguments)
