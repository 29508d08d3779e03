use Rattle.std.proofs.Common.{length, subst}
use Rattle.plans.specs.Plans.{composition}
use Rattle.task_seed.specs.Setups.{plan_of}
use Rattle.virtual_time.specs.Machine.{Lawful}
use Rattle.rollback.specs.ComponentView.{machine_of}
use Rattle.exchange.proofs.Doing.{ahead_known, ahead_moves}
use Rattle.exchange.proofs.holding.Holding.run_and_tell.Goals as goal

pub returns-clause-moves : goal.returns-clause-moves
returns-clause-moves g c =
    let t = g.T.Turns.turn_of in
    let own = c.args.self.now in
    let ran = c.process_some-ran in
    let m = machine_of t own.component.setup in
    let law : Lawful m = subst (λ p. Lawful (machine_of t p)) c.setup.ensures c.machine_is_lawful.ensures.lawful in
    let is = c.holding_law-2.ensures.lease in
    ahead_moves m law (length (composition (plan_of own.component.setup))) (c.lease_law.ensures.alone m) own ran.new.self c.holding_law.ensures.holding ran.result.count ran.ensures.ahead (c.exchange_is_sound.ensures.alone m) is.self_plus is.self_minus
    (c.exchange_is_core.ensures.world m) (c.exchange_is_core.ensures.alone m)

pub returns-clause-known : goal.returns-clause-known
returns-clause-known g c =
    let t = g.T.Turns.turn_of in
    let own = c.args.self.now in
    let ran = c.process_some-ran in
    let m = machine_of t own.component.setup in
    let law : Lawful m = subst (λ p. Lawful (machine_of t p)) c.setup.ensures c.machine_is_lawful.ensures.lawful in
    let is = c.holding_law-2.ensures.lease in
    ahead_known m law (length (composition (plan_of own.component.setup))) (c.lease_law.ensures.alone m) own ran.new.self c.holding_law.ensures.holding ran.result.count ran.ensures.ahead (c.exchange_is_sound.ensures.alone m) is.self_plus is.self_minus
