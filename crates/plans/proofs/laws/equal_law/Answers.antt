use Rattle.plans.specs.SamePlanLaws.{plan_is, plan_from}
use Rattle.plans.proofs.laws.equal_law.Goals as goal

pub returns-clause-same : goal.returns-clause-same
returns-clause-same c = plan_is c.args.a.now c.args.b.now

pub returns-clause-equal : goal.returns-clause-equal
returns-clause-equal c = plan_from c.args.a.now c.args.b.now
