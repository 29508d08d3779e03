use Rattle.std.proofs.Common.{◌≡◌, length, take}
use Rattle.plans.specs.Plans.{composition}
use Rattle.io_automata.specs.Steps.{Leads, start_of}
use Rattle.reference.specs.Verdicts.{state_at}
use Rattle.reference.proofs.checking.check_run.Given as goal

abbrev pub invariant-loop-at : goal.invariant-loop-at
invariant-loop-at l = record {
  many : length l.states.items ≡ length (composition l.plan);
  reached : Leads (composition l.plan) (start_of (composition l.plan)) (take l.at l.actions) (state_at l.states.items);
}
