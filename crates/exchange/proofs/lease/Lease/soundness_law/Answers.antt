use Rattle.std.proofs.Common.{length, subst}
use Rattle.plans.specs.Plans.{composition}
use Rattle.task_seed.specs.Setups.{plan_of}
use Rattle.rollback.specs.ComponentView.{machine_of}
use Rattle.exchange.specs.LeaseView.{LeaseView}
use Rattle.exchange.specs.Seen.{StaysInWindow}
use Rattle.exchange.proofs.Windowed.{few_done}
use Rattle.exchange.proofs.lease.Lease.soundness_law.Goals as goal

pub returns-clause-few : goal.returns-clause-few
returns-clause-few g c =
    let own = c.self.inside.holding in
    subst (λ (h : LeaseView _). StaysInWindow h) c.self.view_is (few_done (machine_of g.T.Turns.turn_of own.component.setup) (length (composition (plan_of own.component.setup))) own c.self.invariant)
