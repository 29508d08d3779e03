use Rattle.task_seed.specs.Turning.{Reaches}
use Rattle.task_seed.specs.Setups.{system}
use Rattle.task_seed.proofs.setup.Setup.key.Given as goal

abbrev pub invariant-loop-k : goal.invariant-loop-k
invariant-loop-k g l = Reaches (system g.T.Turns.turn_of l.self) l.i l.k l.tick
