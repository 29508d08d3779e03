use Rattle.std.proofs.Common.{ℕ, ◌≤◌, drop}
use Rattle.conditions.specs.Conditions.{AreWithin}
use Rattle.conditions.proofs.stages.last_of.Given as goal

abbrev pub invariant-loop-test : goal.invariant-loop-test
invariant-loop-test l = (k : ℕ) → l.last ≤ k → AreWithin k (drop l.test-index l.tests) → AreWithin k l.tests
