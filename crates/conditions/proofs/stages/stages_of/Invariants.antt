use Rattle.std.proofs.Common.{◌-◌, suc, length}
use Rattle.conditions.proofs.Staging.{AreMade}
use Rattle.conditions.proofs.stages.stages_of.Given as goal

abbrev pub invariant-loop-alloc : goal.invariant-loop-alloc
invariant-loop-alloc l = AreMade l.branches l.last l.stages.items

abbrev pub decreases-loop-alloc : goal.decreases-loop-alloc
decreases-loop-alloc l = suc l.last - length l.stages.items
