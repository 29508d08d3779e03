use Rattle.std.proofs.Common.{length, subst}
use Rattle.plans.specs.Plans.{composition}
use Rattle.task_seed.specs.Setups.{plan_of}
use Rattle.virtual_time.specs.Machine.{Lawful}
use Rattle.rollback.specs.ComponentView.{machine_of}
use Rattle.group_exchange.specs.ExchangeView.{exchange_of, group_at}
use Rattle.group_exchange.proofs.Core.{commit_leads}
use Rattle.group_exchange.proofs.exchange.Exchange.commit.Goals as goal

pub returns-clause-core : goal.returns-clause-core
returns-clause-core g c leases =
    let t = g.T.Turns.turn_of in
    let own = c.args.self.now in
    let m = machine_of t own.setup in
    let law : Lawful m = subst (λ p. Lawful (machine_of t p)) c.setup.ensures c.machine_is_lawful.ensures.lawful in
    commit_leads m law (group_at own.groups) (c.exchange_is_core.ensures.world m) (c.group_exchange_is_core.ensures.commit m (group_at own.groups)) (length (composition (plan_of own.setup))) (exchange_of m own) (exchange_of m c.raise_bound-count.new.self) c.soundness_law.ensures.sound c.raise_bound-count.ensures.commit leases
