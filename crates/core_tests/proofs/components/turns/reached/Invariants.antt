use Rattle.task_seed.specs.Clocks.{CanReach}
use Rattle.core_tests.proofs.components.turns.reached.Given as goal

abbrev pub invariant-loop-n : goal.invariant-loop-n
invariant-loop-n g l = CanReach g.T.Turns.turn_of l.setup l.i l.clock l.n
