-- The types of actions: in a composition all entries of one name have as many parameters, of the same types.
use Rattle.std.specs.Prelude.{◌≡◌, ◌≤◌, ℕ, Bool, true, false, ◌&&◌, bytes_eq, List, [], ◌∷◌, map, Option, None, Some, slice_get}
use Rattle.ioa_trees.specs.Kinds.{Kind, same}
use Rattle.ioa_trees.specs.EntryRules.{Slot, Fixed, Free, Meant}
use Rattle.ioa_trees.specs.AutomatonRules.{MeantAutomaton}
use Rattle.ioa_trees.specs.SourceRules.{MeantComponent, MeantSource}

abbrev pub formal_kind : Option (Option Kind) → Option Kind
formal_kind None = None
formal_kind (Some k) = k

-- the type of a parameter: that of its formal, or its own
abbrev pub slot_kind : List (Option Kind) → Option Slot → Option Kind
slot_kind formals None = None
slot_kind formals (Some (Fixed n)) = formal_kind (slice_get formals n)
slot_kind formals (Some (Free k)) = Some k

-- the types of the parameters of an entry
abbrev pub entry_kinds : MeantAutomaton → Meant → List (Option Kind)
entry_kinds a e = map (slot_kind a.formals) e.parameters

abbrev pub same_kind : Option Kind → Option Kind → Bool
same_kind None None = true
same_kind None (Some l) = false
same_kind (Some k) None = false
same_kind (Some k) (Some l) = same k l

-- whether two lists have the same kinds, in number and each
abbrev pub same_kinds : List (Option Kind) → List (Option Kind) → Bool
same_kinds [] [] = true
same_kinds [] (l ∷ ls) = false
same_kinds (k ∷ ks) [] = false
same_kinds (k ∷ ks) (l ∷ ls) = same_kind k l && same_kinds ks ls

abbrev pub automaton_of : List MeantAutomaton → Option ℕ → Option MeantAutomaton
automaton_of automata None = None
automaton_of automata (Some n) = slice_get automata n

abbrev pub automaton_in : List MeantAutomaton → Option MeantComponent → Option MeantAutomaton
automaton_in automata None = None
automaton_in automata (Some c) = automaton_of automata c.automaton

-- the automaton of component i
abbrev pub automaton_at : MeantSource → ℕ → Option MeantAutomaton
automaton_at m i = automaton_in m.automata (slice_get m.components i)

-- Among the components 0 to j, of which one may be taken twice, two entries of one name differ in the number or the types of their parameters.
pub record TypesDiffer (m : MeantSource) (j : ℕ) : Type 0 where
  pub i : ℕ
  pub k : ℕ
  pub within : i ≤ j
  pub other_within : k ≤ j
  pub a : MeantAutomaton
  pub b : MeantAutomaton
  pub automaton : automaton_at m i ≡ Some a
  pub other_automaton : automaton_at m k ≡ Some b
  pub place : ℕ
  pub other_place : ℕ
  pub e : Meant
  pub f : Meant
  pub entry : slice_get a.entries place ≡ Some e
  pub other_entry : slice_get b.entries other_place ≡ Some f
  pub one_name : bytes_eq e.name f.name ≡ true
  pub differ : same_kinds (entry_kinds a e) (entry_kinds b f) ≡ false

-- the least number of which something holds, or none where it holds of none
abbrev pub IsFirst : (ℕ → Type 0) → Option ℕ → Type 0
IsFirst P None = (j : ℕ) → P j → ⊥
IsFirst P (Some j) = P j × ((k : ℕ) → P k → j ≤ k)
