use Rattle.std.proofs.Common.{take}
use Rattle.undo_records.specs.States.{undone}
use Rattle.reference.specs.Taking.{IsPassed, other_than}
use Rattle.reference.proofs.taking.take_back.Given as goal

abbrev pub invariant-loop-j : goal.invariant-loop-j
invariant-loop-j l = IsPassed (other_than l.i undone) (take l.j-index l.among) l.initial.states l.states
