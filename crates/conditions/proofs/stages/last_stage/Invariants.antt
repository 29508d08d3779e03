use Rattle.std.proofs.Common.{ℕ, ◌≤◌, drop}
use Rattle.conditions.specs.Held.{AreAllWithin}
use Rattle.conditions.proofs.stages.last_stage.Given as goal

abbrev pub invariant-loop-tests : goal.invariant-loop-tests
invariant-loop-tests l = (k : ℕ) → l.last ≤ k → AreAllWithin k (drop l.tests-index l.branches) → AreAllWithin k l.branches
