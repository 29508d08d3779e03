use Rattle.antimessage.proofs.Effects.{bags_decide}
use Rattle.antimessage.proofs.laws.equal_law.Goals as goal

pub returns : goal.returns
returns c = bags_decide c.args.a.now c.args.b.now
