use Rattle.std.proofs.Common.{length, subst}
use Rattle.plans.specs.Plans.{composition}
use Rattle.task_seed.specs.Setups.{plan_of}
use Rattle.rollback.specs.ComponentView.{machine_of}
use Rattle.groups.specs.GroupView.{GroupView}
use Rattle.group_exchange.specs.Seen.{StaysInWindow}
use Rattle.group_exchange.proofs.Windowed.{few_done}
use Rattle.group_exchange.proofs.lease.Lease.soundness_law.Goals as goal

pub returns-clause-few : goal.returns-clause-few
returns-clause-few g c =
    let own = c.self.inside.group in
    subst (λ (v : GroupView _). StaysInWindow v) c.self.view_is (few_done (machine_of g.T.Turns.turn_of own.setup) (length (composition (plan_of own.setup))) own c.self.invariant.2)
