use Rattle.std.proofs.Common.{drop}
use Rattle.conditions.specs.Conditions.{AreBranchesWithout}
use Rattle.conditions.proofs.apart.branches_mention.Given as goal

abbrev pub invariant-loop-branch : goal.invariant-loop-branch
invariant-loop-branch l = AreBranchesWithout l.p (drop l.branch-index l.branches) → AreBranchesWithout l.p l.branches
