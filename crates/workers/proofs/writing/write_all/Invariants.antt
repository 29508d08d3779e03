use Rattle.task_seed.specs.Setups.{plan_of, system}
use Rattle.workers.specs.Crews.{IsCallerOf}
use Rattle.workers.proofs.Written.{Sofar}
use Rattle.workers.proofs.writing.write_all.Given as goal

abbrev pub invariant-loop : goal.invariant-loop
invariant-loop g l = record {
  caller : IsCallerOf l.shared l.own l.caller;
  sofar : Sofar g.W.Write.contents (plan_of l.own) (system g.T.Turns.turn_of l.own) l.page.lines l.initial.out l.out l.page.before l.written l.bytes;
}
