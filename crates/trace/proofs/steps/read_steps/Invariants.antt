use Rattle.std.proofs.Common.{◌+◌, ◌≤◌, length}
use Rattle.trace.specs.StepFile.{GivesSteps}
use Rattle.trace.proofs.Sequel.{IsReadTo}
use Rattle.trace.proofs.steps.read_steps.Given as goal

abbrev pub invariant-loop-rest : goal.invariant-loop-rest
invariant-loop-rest l = record {
  read : IsReadTo (GivesSteps l.plan) l.bytes l.rest l.line l.steps.items;
  room : l.line + length l.rest ≤ length l.bytes;
}

abbrev pub decreases-loop-rest : goal.decreases-loop-rest
decreases-loop-rest l = length l.rest
