use Rattle.workers.proofs.Relayed.{may_give}
use Rattle.workers.proofs.taking.share.Goals as goal

pub give_back-requires-clause-others : goal.give_back-requires-clause-others
give_back-requires-clause-others g c = may_give c.args.taker.now.pass c.take.new.pass c.in-Some.ensures.some
