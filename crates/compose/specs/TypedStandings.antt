-- The entries of components, one component after the other, and the search among them.
use Rattle.std.specs.Prelude.{ℕ, suc, Bool, false, not, if◌then◌else◌, bytes_eq, string_bytes, List, [], ◌∷◌, ◌++◌, map, Option, None, Some}
use Rattle.std.specs.declared.string.String.{String}
use Rattle.ioa_typing.specs.KindViews.{option_tree}
use Rattle.ioa_entries.specs.EntryViews.{slot_tree}
use Rattle.ioa_trees.specs.Trees.{Bytes}
use Rattle.ioa_trees.specs.Kinds.{Kind}
use Rattle.ioa_trees.specs.EntryRules.{Meant}
use Rattle.ioa_trees.specs.AutomatonRules.{MeantAutomaton}
use Rattle.ioa_trees.specs.SourceRules.{MeantComponent}
use Rattle.compose.specs.declared.action_types.standing.Standing.{Standing}
use Rattle.compose.specs.Types.{slot_kind, entry_kinds, same_kinds, automaton_of}

-- an entry of a component: its name, and the types of its parameters
pub record Stood : Type 0 where
  pub component : ℕ
  pub name : Bytes
  pub kinds : List (Option Kind)

abbrev pub stood : Standing → Stood
stood s = record {
  component = s.component;
  name = string_bytes s.entry.now.name;
  kinds = map (slot_kind (map (λ k. option_tree (Some k)) s.formals.now)) (map (λ p. slot_tree (Some p)) s.entry.now.parameters.items);
}

abbrev pub stood_in : ℕ → MeantAutomaton → Meant → Stood
stood_in i a e = record { component = i; name = e.name; kinds = entry_kinds a e }

abbrev pub entries_in : ℕ → Option MeantAutomaton → List Stood
entries_in i None = []
entries_in i (Some a) = map (stood_in i a) a.entries

-- the entries of the components of a list, of which the first has number i
abbrev pub stands : List MeantAutomaton → ℕ → List MeantComponent → List Stood
stands automata i [] = []
stands automata i (c ∷ cs) = entries_in i (automaton_of automata c.automaton) ++ stands automata (suc i) cs

-- the first entry of a name
abbrev pub first_of : Bytes → List Stood → Option Stood
first_of q [] = None
first_of q (s ∷ ss) = if bytes_eq q s.name then Some s else first_of q ss

-- whether an entry has other types than the first of its name, if there is one
abbrev pub differs : Option Stood → Stood → Bool
differs None s = false
differs (Some f) s = not (same_kinds f.kinds s.kinds)

-- the component of the first entry with other types than the first of its name; the entries of the first list came before
abbrev pub first_different : List Stood → List Stood → Option ℕ
first_different before [] = None
first_different before (s ∷ ss) = if differs (first_of s.name before) s then Some s.component else first_different (before ++ s ∷ []) ss

-- the entry that is kept under a name
abbrev pub kept : {A : Type 0} → Bytes → List (String A × Standing) → Option Stood
kept q [] = None
kept q (x ∷ xs) = if bytes_eq q (string_bytes x.0) then Some (stood x.1) else kept q xs

-- a first entry stays, and one of a new name is added
abbrev pub or_this : Option Stood → Bytes → Stood → Option Stood
or_this (Some f) q s = Some f
or_this None q s = if bytes_eq q s.name then Some s else None
