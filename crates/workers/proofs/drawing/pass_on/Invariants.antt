use Rattle.task_seed.specs.Setups.{system}
use Rattle.lone_group.specs.Drawn.{IsDrawn}
use Rattle.workers.specs.Alone.{IsDrawerOf}
use Rattle.workers.proofs.drawing.pass_on.Given as goal

abbrev pub invariant-loop : goal.invariant-loop
invariant-loop g l = record { own : IsDrawerOf l.relay l.drawer; drawn : IsDrawn (system g.T.Turns.turn_of l.drawer.agenda.setup) l.drawn }
