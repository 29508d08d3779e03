-- What a test says of a parameter.
use Rattle.std.specs.Prelude.{◌≡◌, ℕ, ◌≤◌, true, List}
use Rattle.terms.specs.Datum.{Datum, Just}
use Rattle.terms.specs.Meaning.{Scope, value, truth, slot}
use Rattle.terms.specs.TermTree.{TermTree, term_tree}
use Rattle.terms.specs.declared.term.Term.{Term}
use Rattle.conditions.specs.Reach.{reach}

-- a term is true where parameter p has the value of another term, and nowhere else; that one mentions only earlier parameters
abbrev pub Gives : ℕ → TermTree → Term → Type 0
Gives p test term = (reach (term_tree term) ≤ p) × ((scope : Scope) (state : List Datum) → truth (value test scope state) ≡ true → value (term_tree term) scope state ≡ Just (slot scope.parameters p)) × ((scope : Scope) (state : List Datum) → value (term_tree term) scope state ≡ Just (slot scope.parameters p) → truth (value test scope state) ≡ true)
