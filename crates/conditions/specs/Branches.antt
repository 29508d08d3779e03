-- A term that has to be true or false as branches, of which one has to hold: the form in which `and` stands below `or`.
use Rattle.std.specs.Prelude.{◌≡◌, Bool as Truth, true, false, ◌&&◌, ◌||◌, List, [], ◌∷◌}
use Rattle.std.specs.declared.alloc.Global.{Global}
use Rattle.std.specs.declared.vec.Vec.{Vec}
use Rattle.terms.specs.Datum.{Datum}
use Rattle.terms.specs.Meaning.{Scope, value, truth}
use Rattle.terms.specs.TermTree.{TermTree, term_tree}
use Rattle.conditions.specs.declared.condition.Test.{Test}
use Rattle.conditions.specs.Conditions.{turned, tests_hold}

-- a test, wherever its term lies in memory
pub record TestTree : Type 0 where
  pub term : TermTree
  pub is : Truth

abbrev pub test_tree : Test → TestTree
test_tree test = record { term = term_tree test.term; is = test.is }

-- some branch has all its tests hold
abbrev pub one_holds : Scope → List Datum → List (Vec Test Global) → Truth
one_holds scope state [] = false
one_holds scope state (tests ∷ branches) = tests_hold scope state tests.items || one_holds scope state branches

-- the branches hold where the term is true, or isn't, as is said
abbrev pub Stand : TermTree → Truth → List (Vec Test Global) → Type 0
Stand term is branches = (scope : Scope) (state : List Datum) → one_holds scope state branches ≡ turned is (truth (value term scope state))

-- two truth values joined: both, or either
abbrev pub joined : Truth → Truth → Truth → Truth
joined true a b = a && b
joined false a b = a || b
