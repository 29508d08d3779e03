use Rattle.std.proofs.Common.{◌≡◌, ◌&&◌, List, drop}
use Rattle.terms.specs.Datum.{Datum}
use Rattle.terms.specs.Meaning.{Scope}
use Rattle.conditions.specs.Conditions.{AreWithin, tests_hold}
use Rattle.conditions.specs.Held.{hold_at}
use Rattle.conditions.proofs.stages.tests_at.Given as goal

abbrev pub invariant-loop-test : goal.invariant-loop-test
invariant-loop-test l = record {
  within : AreWithin l.k l.at.items;
  held : (scope : Scope) (state : List Datum) → tests_hold scope state l.at.items && hold_at scope state l.k (drop l.test-index l.tests) ≡ hold_at scope state l.k l.tests;
}
