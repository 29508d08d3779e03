use Rattle.std.proofs.Common.{take}
use Rattle.undo_records.specs.States.{without_first}
use Rattle.reference.specs.Taking.{IsPassed, other_than}
use Rattle.reference.proofs.taking.forget_others.Given as goal

abbrev pub invariant-loop-j : goal.invariant-loop-j
invariant-loop-j l = IsPassed (other_than l.i (without_first 1)) (take l.j-index l.among) l.initial.states l.states
