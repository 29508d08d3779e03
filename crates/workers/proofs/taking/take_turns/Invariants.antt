use Rattle.workers.specs.Alone.{IsTakerOf}
use Rattle.workers.proofs.taking.take_turns.Given as goal

abbrev pub invariant-loop : goal.invariant-loop
invariant-loop g l = record { own : IsTakerOf l.relay l.taker }
