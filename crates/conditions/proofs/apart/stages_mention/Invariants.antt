use Rattle.std.proofs.Common.{drop}
use Rattle.conditions.specs.Conditions.{AreWithout}
use Rattle.conditions.proofs.apart.stages_mention.Given as goal

abbrev pub invariant-loop-stage : goal.invariant-loop-stage
invariant-loop-stage l = AreWithout l.p (drop l.stage-index l.stages) → AreWithout l.p l.stages
