-- A cell that each turn of a loop makes of itself: its value can be carried from turn to turn, and be written once.
use Rattle.std.specs.Prelude.{◌≡◌, ℕ, List, [], ◌∷◌, slice_set}
use Rattle.terms.specs.Datum.{Datum}
use Rattle.terms.specs.Linked.{value_on, values_on}
use Rattle.terms.specs.Meaning.{Scope, value, with_loop}
use Rattle.terms.specs.TermTree.{TermTree, LinkTree}
use Rattle.terms.specs.declared.scalar.Scalar.{Scalar}

-- the value of a term does not depend on a cell
abbrev pub IsApart : ℕ → TermTree → Type 0
IsApart n term = (scope : Scope) (cells : List Datum) (new : Datum) → value term scope (slice_set cells n new) ≡ value term scope cells

-- nor does what a link makes of a value
abbrev pub IsLinkApart : ℕ → LinkTree → Type 0
IsLinkApart n link = (scope : Scope) (cells : List Datum) (new left : Datum) → value_on link scope (slice_set cells n new) left ≡ value_on link scope cells left

-- nor does what links make of a value
abbrev pub AreApart : ℕ → List LinkTree → Type 0
AreApart n links = (scope : Scope) (cells : List Datum) (new left : Datum) → values_on links scope (slice_set cells n new) left ≡ values_on links scope cells left

-- what links make of a value, turn after turn
abbrev pub carried : ℕ → List LinkTree → Scope → List Datum → List Scalar → Datum → Datum
carried slot links scope cells [] value = value
carried slot links scope cells (member ∷ members) value = carried slot links scope cells members (values_on links (with_loop slot member scope) cells value)
