use Rattle.std.proofs.Common.{◌≡◌, ◌||◌, ◌&&◌, List, drop}
use Rattle.terms.specs.Datum.{Datum}
use Rattle.terms.specs.Meaning.{Scope}
use Rattle.conditions.specs.Branches.{one_holds}
use Rattle.conditions.proofs.branches.products.Given as goal

abbrev pub invariant-loop-tests : goal.invariant-loop-tests
invariant-loop-tests l = (scope : Scope) (state : List Datum) →
    one_holds scope state l.all.items || (one_holds scope state (drop l.tests-index l.first) && one_holds scope state l.second) ≡ one_holds scope state l.first && one_holds scope state l.second
