use Rattle.std.proofs.Common.{length, subst}
use Rattle.plans.specs.Plans.{composition}
use Rattle.virtual_time.specs.Machine.{Lawful}
use Rattle.task_seed.specs.Setups.{plan_of}
use Rattle.rollback.specs.ComponentView.{machine_of}
use Rattle.exchange.specs.LeaseView.{lease_of}
use Rattle.exchange.specs.ExchangeView.{exchange_of}
use Rattle.exchange.proofs.Core.{meet_leads}
use Rattle.exchange.proofs.exchange.Exchange.meet_known.Goals as goal

pub returns-clause-core : goal.returns-clause-core
returns-clause-core g c leases here =
    let t = g.T.Turns.turn_of in
    let own = c.args.self.now in
    let lease = c.args.lease.now in
    let m = machine_of t own.setup in
    let law : Lawful m = subst (λ p. Lawful (machine_of t p)) c.setup.ensures c.machine_is_lawful.ensures.lawful in
    meet_leads m law (c.exchange_is_core.ensures.world m) (c.exchange_is_core.ensures.meet m) (c.exchange_is_sound.ensures.meet m) (length (composition (plan_of own.setup))) lease.component.number (exchange_of m own) (exchange_of m c.accept-bound.new.self) (lease_of lease)
    (lease_of c.accept-bound.new.lease) c.soundness_law.ensures.sound c.accept-bound.ensures.met leases here
