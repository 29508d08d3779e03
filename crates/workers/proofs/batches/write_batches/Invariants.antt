use Rattle.task_seed.specs.Setups.{plan_of, system}
use Rattle.workers.specs.Alone.{IsWriterOf}
use Rattle.workers.proofs.Written.{Sofar}
use Rattle.workers.proofs.batches.write_batches.Given as goal

abbrev pub invariant-loop : goal.invariant-loop
invariant-loop g l = record {
  writer : IsWriterOf l.relay l.own l.writer;
  sofar : Sofar g.W.Write.contents (plan_of l.own) (system g.T.Turns.turn_of l.own) l.page.lines l.initial.out l.out l.page.before l.written l.bytes;
}
