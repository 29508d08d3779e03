use Rattle.std.proofs.Common.{length, subst}
use Rattle.plans.specs.Plans.{composition}
use Rattle.task_seed.specs.Setups.{plan_of}
use Rattle.virtual_time.specs.Machine.{HasCount, Lawful}
use Rattle.rollback.specs.ComponentView.{machine_of}
use Rattle.exchange.proofs.Doing.{all_known, all_moves}
use Rattle.exchange.proofs.holding.Holding.settle.Goals as goal

pub returns-clause-moves : goal.returns-clause-moves
returns-clause-moves g c =
    let t = g.T.Turns.turn_of in
    let own = c.args.self.now in
    let m = machine_of t own.component.setup in
    let n = length (composition (plan_of own.component.setup)) in
    let law : Lawful m = subst (λ p. Lawful (machine_of t p)) c.setup.ensures c.machine_is_lawful.ensures.lawful in
    let counted : HasCount m n = subst (λ p. HasCount (machine_of t p) (length (composition (plan_of p)))) c.setup.ensures c.machine_is_lawful.ensures.counted in
    let is = c.holding_law-2.ensures.lease in
    all_moves m law n counted (c.exchange_is_sound.ensures.alone m) (c.lease_law.ensures.alone m) (c.lease_law.ensures.message m) (c.lease_law.ensures.antimessage m) own.tray own c.deliver_all-count.new.self c.holding_law.ensures.holding is.self_plus is.self_minus c.deliver_all-count.ensures.delivered
    (c.exchange_is_core.ensures.world m) (c.exchange_is_core.ensures.alone m)

pub returns-clause-known : goal.returns-clause-known
returns-clause-known g c =
    let t = g.T.Turns.turn_of in
    let own = c.args.self.now in
    let m = machine_of t own.component.setup in
    let n = length (composition (plan_of own.component.setup)) in
    let law : Lawful m = subst (λ p. Lawful (machine_of t p)) c.setup.ensures c.machine_is_lawful.ensures.lawful in
    let counted : HasCount m n = subst (λ p. HasCount (machine_of t p) (length (composition (plan_of p)))) c.setup.ensures c.machine_is_lawful.ensures.counted in
    let is = c.holding_law-2.ensures.lease in
    all_known m law n counted (c.exchange_is_sound.ensures.alone m) (c.lease_law.ensures.alone m) (c.lease_law.ensures.message m) (c.lease_law.ensures.antimessage m) own.tray own c.deliver_all-count.new.self c.holding_law.ensures.holding is.self_plus is.self_minus c.deliver_all-count.ensures.delivered
