use Rattle.core_tests.proofs.Stepwise.{next_can_be}
use Rattle.core_tests.proofs.components.turns.reached.Goals as goal

pub loop-n-preserved : goal.loop-n-preserved
loop-n-preserved g c =
    let l = c.loop-n in
    next_can_be g.T.Turns.turn_of c.args.setup.now c.args.i l.clock c.reach.new.self l.n l.invariant c.in_ok-reach.ensures.ok
