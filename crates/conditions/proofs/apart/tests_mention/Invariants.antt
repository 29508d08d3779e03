use Rattle.std.proofs.Common.{drop}
use Rattle.conditions.specs.Conditions.{AreTestsWithout}
use Rattle.conditions.proofs.apart.tests_mention.Given as goal

abbrev pub invariant-loop-test : goal.invariant-loop-test
invariant-loop-test l = AreTestsWithout l.p (drop l.test-index l.tests) → AreTestsWithout l.p l.tests
