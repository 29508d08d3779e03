-- Names of outputs, and hidden names that aren't among them.
use Rattle.std.specs.Prelude.{◌≡◌, ℕ, Bool, true, false, not, ◌||◌, Option, None, Some, List, bytes_eq, slice_get, string_bytes}
use Rattle.std.specs.Global.{Global}
use Rattle.std.specs.List.{list_any}
use Rattle.std.specs.declared.string.String.{String}
use Rattle.ioa_trees.specs.Trees.{Bytes}
use Rattle.ioa_trees.specs.EntryRules.{Meant}
use Rattle.ioa_trees.specs.AutomatonRules.{MeantAutomaton}
use Rattle.ioa_trees.specs.SourceRules.{MeantComponent}
use Rattle.compose.specs.Tables.{mark_at}
use Rattle.compose.specs.Faults.{gives, gives_in, is_output_of}

-- the names of a set to which those of the outputs of these entries were added
abbrev pub AddsOutputs : List Bytes → List Bytes → List Meant → Type 0
AddsOutputs after before entries =
    (q : Bytes) → list_any (bytes_eq q) after ≡ (list_any (is_output_of q) entries || list_any (bytes_eq q) before)

-- The names are those of the outputs of the first components; of a visited automaton all outputs are among them.
pub record AreGiven (automata : List MeantAutomaton) (seen : List MeantComponent) (names : List Bytes) (visited : List Bool) : Type 0 where
  pub given : (q : Bytes) → list_any (bytes_eq q) names ≡ list_any (gives_in automata q) seen
  pub covered : (n : ℕ) → mark_at visited n ≡ true
      → (q : Bytes) → gives q (slice_get automata n) ≡ true → list_any (bytes_eq q) names ≡ true

-- whether the name at a place isn't among others; none is missing where no name is
abbrev pub lacks_in : List Bytes → Option (String Global) → Bool
lacks_in given None = false
lacks_in given (Some name) = not (list_any (bytes_eq (string_bytes name)) given)

abbrev pub lacks_at : List Bytes → List (String Global) → ℕ → Bool
lacks_at given names n = lacks_in given (slice_get names n)
