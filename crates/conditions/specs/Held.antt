-- The tests of branches by the stage at which they can be asked.
use Rattle.std.specs.Prelude.{◌≡◌, ℕ, zero, nat_lt, nat_eq, Bool as Truth, true, ◌&&◌, if◌then◌else◌, List, [], ◌∷◌, map}
use Rattle.std.specs.declared.alloc.Global.{Global}
use Rattle.std.specs.declared.vec.Vec.{Vec}
use Rattle.terms.specs.Datum.{Datum}
use Rattle.terms.specs.Meaning.{Scope}
use Rattle.terms.specs.TermTree.{term_tree}
use Rattle.conditions.specs.declared.condition.Test.{Test}
use Rattle.conditions.specs.declared.condition.Branch.{Branch}
use Rattle.conditions.specs.Conditions.{test_holds, tests_hold, AreWithin}
use Rattle.conditions.specs.Reach.{reach}

-- those of the tests hold that reach exactly the first k parameters
abbrev pub hold_at : Scope → List Datum → ℕ → List Test → Truth
hold_at scope state k [] = true
hold_at scope state k (test ∷ tests) = (if nat_eq (reach (term_tree test.term)) k then test_holds scope state test else true) && hold_at scope state k tests

-- those hold that reach fewer
abbrev pub hold_below : Scope → List Datum → ℕ → List Test → Truth
hold_below scope state k [] = true
hold_below scope state k (test ∷ tests) = (if nat_lt (reach (term_tree test.term)) k then test_holds scope state test else true) && hold_below scope state k tests

-- the same of each branch
abbrev pub each_at : Scope → List Datum → ℕ → List (Vec Test Global) → List Truth
each_at scope state k branches = map (λ tests. hold_at scope state k tests.items) branches

abbrev pub each_below : Scope → List Datum → ℕ → List (Vec Test Global) → List Truth
each_below scope state k branches = map (λ tests. hold_below scope state k tests.items) branches

-- what a stage asks of each branch
abbrev pub each_asked : Scope → List Datum → List Branch → List Truth
each_asked scope state branches = map (λ branch. tests_hold scope state branch.tests.items) branches

-- no test reaches beyond the first k parameters
abbrev pub AreAllWithin : ℕ → List (Vec Test Global) → Type 0
AreAllWithin k [] = zero ≡ zero
AreAllWithin k (tests ∷ branches) = AreWithin k tests.items × AreAllWithin k branches
