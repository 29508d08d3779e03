use Rattle.workers.proofs.Relayed.{may_give}
use Rattle.workers.proofs.drawing.pass_on.Goals as goal

pub give_back-requires-clause-others : goal.give_back-requires-clause-others
give_back-requires-clause-others g c = may_give c.loop.drawer.pass c.take.new.pass c.in-Some-take.ensures.some
