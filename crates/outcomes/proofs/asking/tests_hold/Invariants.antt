use Rattle.std.proofs.Common.{◌≡◌, drop}
use Rattle.conditions.specs.Conditions.{tests_hold}
use Rattle.terms.specs.Scopes.{scope}
use Rattle.outcomes.proofs.asking.tests_hold.Given as goal

abbrev pub invariant-loop-test : goal.invariant-loop-test
invariant-loop-test g l =
    let state = g.C.Cells.values l.cells in
    tests_hold (scope l.env) state (drop l.test-index l.tests) ≡ tests_hold (scope l.env) state l.tests
