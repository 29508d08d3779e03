use Rattle.workers.specs.Crews.{IsOf}
use Rattle.workers.proofs.working.work.Given as goal

abbrev pub invariant-loop : goal.invariant-loop
invariant-loop g l = record { own : IsOf g.T.Turns.turn_of l.shared l.worker }
