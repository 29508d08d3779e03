-- What holds of the automata that a source without faults means.
use Rattle.std.specs.Prelude.{◌≡◌, ℕ, ◌+◌, ◌^◌, pos, neg_ℤ, int_le, int_lt, Bool, true, false, ◌&&◌, ◌||◌, Option, Some, None, nat_le, bytes_eq, if◌then◌else◌, List, length, sum_by, slice_get}
use Rattle.io_automata.specs.WellFormed.{times, all_places}
use Rattle.ioa_trees.specs.Kinds.{Kind, Truth, Whole, Range, Enum, SeqOf, ArrayOf, count, can_be_listed, is_scalar}
use Rattle.ioa_trees.specs.EntryRules.{Meant, Slot, Fixed, Free, is_input, is_controlled}
use Rattle.ioa_trees.specs.AutomatonRules.{MeantAutomaton}

-- how often the place of an entry stands in the tasks: once where it is controlled, else never
abbrev pub share : Option Meant → ℕ
share None = 0
share (Some e) = if is_controlled e.kind then 1 else 0

-- two entries of one name that are both inputs, or both controlled
abbrev pub collide : Meant → Meant → Bool
collide e f = bytes_eq e.name f.name && ((is_input e.kind && is_input f.kind) || (is_controlled e.kind && is_controlled f.kind))

-- an enumeration inside this kind ends within so many members, and a range is of numbers of 64 bits with a sign, the least first
abbrev pub is_within : ℕ → Kind → Bool
is_within members Truth = true
is_within members Whole = true
is_within members (Range low high) = int_le low high && (int_le (neg_ℤ (pos (2 ^ 63))) low && int_lt high (pos (2 ^ 63)))
is_within members (Enum first n) = nat_le (first + n) members
is_within members (SeqOf k n) = is_within members k
is_within members (ArrayOf r k) = is_within members r && is_within members k

-- what a parameter may be: a formal's value, or a scalar kind within the members
abbrev pub is_slot : ℕ → Option Slot → Bool
is_slot members None = false
is_slot members (Some (Fixed n)) = true
is_slot members (Some (Free k)) = is_scalar k && is_within members k

-- a parameter whose values can be listed, at most 256 of them
abbrev pub is_listed : Option Slot → Bool
is_listed None = false
is_listed (Some (Fixed n)) = true
is_listed (Some (Free k)) = can_be_listed k && nat_le (count k) 256

-- A name stands at most once as an input, and at most once as an output or internal action. The tasks are a partition of
-- what is controlled. Parameters are scalar and within the members, and those of what is controlled can be listed.
pub record IsSoundAutomaton (members : ℕ) (a : MeantAutomaton) : Type 0 where
  pub once : (m n : ℕ) (e f : Meant) → slice_get a.entries m ≡ Some e → slice_get a.entries n ≡ Some f → collide e f ≡ true → m ≡ n
  pub partition : (place : ℕ) → times place (all_places a.tasks) ≡ share (slice_get a.entries place)
  pub slots : (place k : ℕ) (e : Meant) (slot : Option Slot) → slice_get a.entries place ≡ Some e → slice_get e.parameters k ≡ Some slot → is_slot members slot ≡ true
  pub listed : (place k : ℕ) (e : Meant) (slot : Option Slot) → slice_get a.entries place ≡ Some e → is_controlled e.kind ≡ true → slice_get e.parameters k ≡ Some slot → is_listed slot ≡ true

-- how many entries the automata have
abbrev pub entries_in : List MeantAutomaton → ℕ
entries_in automata = sum_by (λ a. length a.entries) automata
