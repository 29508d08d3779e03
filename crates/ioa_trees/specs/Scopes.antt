-- Names and what they mean, in the order of their declarations: the first declaration of a name counts.
use Rattle.std.specs.Prelude.{ℕ, Bool, true, false, Option, Some, None, if◌then◌else◌, List, [], ◌∷◌, bytes_eq, ◌||◌}
use Rattle.std.specs.List.{list_any}
use Rattle.std.specs.Map.{lookup}
use Rattle.std.specs.Option.{is_some}
use Rattle.ioa_trees.specs.Trees.{Bytes}
use Rattle.ioa_trees.specs.Kinds.{Kind}
use Rattle.ioa_trees.specs.Faults.{Fault, where_wrong}

-- A type, a formal, a state variable, a parameter or a loop variable has a kind, unless its type means nothing.
pub data Meaning : Type 0 where
  OfType : Option Kind → Meaning
  -- its number among all members, the number of the first one of its enumeration, and how many that has
  OfMember : (at first count : ℕ) → Meaning
  OfAutomaton : ℕ → Meaning
  OfComposed : Meaning
  OfFormal : ℕ → Option Kind → Meaning
  OfVariable : ℕ → Option Kind → Meaning
  -- its place among the parameters of its action
  OfParameter : ℕ → Option Kind → Meaning
  -- how many loops are around its own
  OfLoop : ℕ → Option Kind → Meaning

abbrev pub Scope : Type 0
Scope = List (Bytes × Meaning)

abbrev pub named : Bytes → Scope → Option Meaning
named q s = lookup (bytes_eq q) s

-- a scope with one more name at its end; a name that is there keeps its meaning
abbrev pub declare : Bytes → Meaning → Scope → Scope
declare q m [] = (q, m) ∷ []
declare q m (e ∷ es) = if bytes_eq q e.0 then e ∷ es else e ∷ declare q m es

-- 11: a name that is there already
abbrev pub doubled : Scope → ℕ → Bytes → List Fault
doubled s at q = where_wrong (is_some (named q s)) at 11

-- 11: a name that stands in scope, or was used before
abbrev pub taken_before : Scope → List Bytes → ℕ → Bytes → List Fault
taken_before s used at q = where_wrong (is_some (named q s) || list_any (bytes_eq q) used) at 11

-- the kind of a type's name
abbrev pub kind_meant : Option Meaning → Option Kind
kind_meant (Some (OfType k)) = k
kind_meant _ = None

abbrev pub is_type : Option Meaning → Bool
is_type (Some (OfType k)) = true
is_type _ = false

abbrev pub is_formal : Option Meaning → Bool
is_formal (Some (OfFormal n k)) = true
is_formal _ = false

abbrev pub is_variable : Option Meaning → Bool
is_variable (Some (OfVariable n k)) = true
is_variable _ = false

-- a name that may stand in a term
abbrev pub is_value : Option Meaning → Bool
is_value (Some (OfMember at first n)) = true
is_value (Some (OfFormal n k)) = true
is_value (Some (OfVariable n k)) = true
is_value (Some (OfParameter n k)) = true
is_value (Some (OfLoop n k)) = true
is_value _ = false

-- the number of an automaton that isn't composed
abbrev pub automaton_meant : Option Meaning → Option ℕ
automaton_meant (Some (OfAutomaton n)) = Some n
automaton_meant _ = None
