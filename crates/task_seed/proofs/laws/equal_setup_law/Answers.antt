use Rattle.std.proofs.Common.{◌&&◌, nat_eq}
use Rattle.terms.specs.SameTreeLaws.{both_true}
use Rattle.plans.specs.SamePlans.{same_plan}
use Rattle.plans.specs.SamePlanLaws.{plan_is}
use Rattle.task_seed.proofs.laws.equal_setup_law.Goals as goal

pub returns-clause-composition : goal.returns-clause-composition
returns-clause-composition g c h =
    let own = c.args.a.now in
    let other = c.args.b.now in
    (plan_is own.plan other.plan (both_true (same_plan own.plan other.plan) (g.T.PartialEq.eq own.turns other.turns && nat_eq own.horizon other.horizon) h).0).0
