use Rattle.std.proofs.Common.{◌≡◌, ◌||◌, ◌&&◌, List, drop}
use Rattle.terms.specs.Datum.{Datum}
use Rattle.terms.specs.Meaning.{Scope}
use Rattle.conditions.specs.Branches.{one_holds}
use Rattle.conditions.specs.Conditions.{tests_hold}
use Rattle.conditions.proofs.branches.add_products.Given as goal

abbrev pub invariant-loop-more : goal.invariant-loop-more
invariant-loop-more l = (scope : Scope) (state : List Datum) →
    one_holds scope state l.all.items || (tests_hold scope state l.tests && one_holds scope state (drop l.more-index l.others)) ≡ one_holds scope state l.fn.all.items || (tests_hold scope state l.tests && one_holds scope state l.others)
