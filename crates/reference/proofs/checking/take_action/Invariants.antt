use Rattle.std.proofs.Common.{◌≡◌, length, take}
use Rattle.plans.specs.Plans.{composition}
use Rattle.reference.proofs.Taken.{IsTaken}
use Rattle.reference.proofs.checking.take_action.Given as goal

abbrev pub invariant-loop-i : goal.invariant-loop-i
invariant-loop-i l = record {
  many : length l.states ≡ length l.initial.states;
  taken : IsTaken (composition l.plan) l.action l.initial.states (take l.i-index l.takers) l.states;
}
