use Rattle.std.proofs.Common.{◌≡◌, false, sym, subst, ap, ◌∙◌, arith}
use Rattle.std.proofs.lemmas.Bool.{ltb-false, ltb-true}
use Rattle.antimessage.specs.Order.{Fits}
use Rattle.event_keys.specs.declared.message.Signed.{Signed}
use Rattle.virtual_time.specs.Machine.{Lawful}
use Rattle.rollback.specs.ComponentView.{machine_of}
use Rattle.groups.specs.GroupView.{is_member}
use Rattle.groups.proofs.Passed.{depth_in, passed_in, passed_out}
use Rattle.groups.proofs.passing.pass.Goals as goal

pub returns-then-not-has-clause-passed : goal.returns-then-not-has-clause-passed
returns-then-not-has-clause-passed g c =
    let t = g.T.Turns.turn_of in
    let old = c.args.members.now in
    let cell = c.args.cell in
    let law : Lawful (machine_of t old.setup) = subst (λ p. Lawful (machine_of t p)) c.setup.ensures c.machine_is_lawful.ensures.lawful in
    let alien : is_member old.components cell.message.to ≡ false = ap (λ (s : Signed). is_member old.components s.message.to) (sym c.value-2.ensures) ∙ sym c.has.ensures ∙ c.if-not-has.true in
    let fit : Fits cell = subst Fits c.value.ensures c.fits.ensures in
    passed_out t old cell c.args.sent.now c.args.out.now c.post.new.self law alien c.post.ensures.was fit c.post.ensures.posted

pub returns-clause-passed : goal.returns-clause-passed
returns-clause-passed g c =
    let t = g.T.Turns.turn_of in
    let old = c.args.members.now in
    let law : Lawful (machine_of t old.setup) = subst (λ p. Lawful (machine_of t p)) c.setup.ensures c.machine_is_lawful.ensures.lawful in
    let sound = c.members_law.ensures in
    passed_in t old c.deliver.new.self law sound.place sound.apart sound.own c.args.cell c.deliver.result c.args.sent.now c.deliver.new.sent c.args.out.now c.least_law.ensures.low c.requires.order c.deliver.ensures.came

pub returns-clause-less : goal.returns-clause-less
returns-clause-less g c = λ more.
    let t = g.T.Turns.turn_of in
    let old = c.args.members.now in
    let law : Lawful (machine_of t old.setup) = subst (λ p. Lawful (machine_of t p)) c.setup.ensures c.machine_is_lawful.ensures.lawful in
    let sound = c.members_law.ensures in
    let depth = depth_in t old c.deliver.new.self law sound.place sound.apart sound.own c.args.cell c.deliver.result c.args.sent.now c.deliver.new.sent c.deliver.ensures.came in
    let some = ltb-true 0 c.deliver.result more in
    omega (arith, depth, some)

pub returns-clause-depth : goal.returns-clause-depth
returns-clause-depth g c = λ none.
    let t = g.T.Turns.turn_of in
    let old = c.args.members.now in
    let law : Lawful (machine_of t old.setup) = subst (λ p. Lawful (machine_of t p)) c.setup.ensures c.machine_is_lawful.ensures.lawful in
    let sound = c.members_law.ensures in
    let depth = depth_in t old c.deliver.new.self law sound.place sound.apart sound.own c.args.cell c.deliver.result c.args.sent.now c.deliver.new.sent c.deliver.ensures.came in
    let zero = ltb-false 0 c.deliver.result none in
    omega (arith, depth, zero)
