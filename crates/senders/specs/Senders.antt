-- Which components may send to which.
use Rattle.std.specs.Prelude.{◌≡◌, ◌<◌, true, ℕ, Some, List, [], Contains, get_or, length, map}
use Rattle.terms.specs.Datum.{Datum}
use Rattle.terms.specs.Named.{Named}
use Rattle.io_automata.specs.Automata.{Instance, items_in}
use Rattle.io_automata.specs.Outcomes.{outcome_of}
use Rattle.io_automata.specs.Signatures.{receives}
use Rattle.senders.specs.declared.senders.Senders.{Senders}

-- of each component those that may send to it
abbrev pub lists_of : Senders → List (List ℕ)
lists_of senders = map items_in senders.lists.items

-- of component j those that may send to it
abbrev pub senders_at : List (List ℕ) → ℕ → List ℕ
senders_at lists j = get_or lists j []

-- of each of so many components those that may send to it: all whose turns can come to an action that it takes
pub record AreSenders (composition : List Instance) (lists : List (List ℕ)) : Type 0 where
  pub many : length lists ≡ length composition
  pub within : (j i : ℕ) → Contains (senders_at lists j) i → i < length composition
  pub all : (i j task choice : ℕ) (state : List Datum) (action : Named) → outcome_of composition i task choice state ≡ Some action → receives composition i action j ≡ true → Contains (senders_at lists j) i
