use Rattle.std.proofs.Common.{take}
use Rattle.plans.specs.Plans.{composition}
use Rattle.reference.specs.Taking.{IsPassed, reaching}
use Rattle.reference.proofs.taking.reach_all.Given as goal

abbrev pub invariant-loop-count : goal.invariant-loop-count
invariant-loop-count l = IsPassed (reaching (composition l.plan) l.i l.action) (take l.count l.among) l.initial.states l.states
