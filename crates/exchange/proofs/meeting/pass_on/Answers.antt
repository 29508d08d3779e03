use Rattle.std.proofs.Common.{◌≡◌, ◌<◌, length, subst, ◌∙◌, arith}
use Rattle.virtual_time.specs.Machine.{Lawful}
use Rattle.task_seed.specs.Setups.{system}
use Rattle.task_seed.specs.Machines.{machine}
use Rattle.exchange.proofs.Spreading.{passed_on, tray_to}
use Rattle.exchange.proofs.meeting.pass_on.Goals as goal

pub floor_of-own-requires-after_bounds : goal.floor_of-own-requires-after_bounds
floor_of-own-requires-after_bounds g c = λ _ _.
    let t = g.T.Turns.turn_of in
    let x = c.args.component.now in
    let s = system t x.setup in
    let law : Lawful (machine s) = subst (λ p. Lawful (machine (system t p))) c.setup.ensures c.machine_is_lawful.ensures.lawful in
    let is_n : c.from-i.result ≡ x.number = c.from-i.ensures ∙ c.number.ensures.number in
    let there = c.number.ensures.there in
    let number = c.number.ensures.number in
    let many = c.requires.many in
    let short : x.number < length c.args.stubs.now = omega (arith, there, number, many) in
    tray_to x.number c.from-i.result is_n c.args.bound c.args.bound c.args.out.now c.args.copies.now.of_sender c.args.copies.now.of_receiver c.args.tray.now c.hand_over.new.tray c.args.stubs.now c.index-stubs-i.result c.index-stubs-i-2.result short
    c.send.new.self c.send.ensures.stub c.spread.new.stubs c.spread.ensures.many c.spread.ensures.each s law c.flight_law.ensures.to c.requires.inbox c.requires.arrived c.hand_over.ensures.tray

pub returns-clause-passed : goal.returns-clause-passed
returns-clause-passed g c =
    let t = g.T.Turns.turn_of in
    let x = c.args.component.now in
    let s = system t x.setup in
    let law : Lawful (machine s) = subst (λ p. Lawful (machine (system t p))) c.setup.ensures c.machine_is_lawful.ensures.lawful in
    let is_n : c.from-i.result ≡ x.number = c.from-i.ensures ∙ c.number.ensures.number in
    let there = c.number.ensures.there in
    let number = c.number.ensures.number in
    let many = c.requires.many in
    let short : x.number < length c.args.stubs.now = omega (arith, there, number, many) in
    passed_on x.number c.from-i.result is_n c.args.bound c.floor_of-own.result c.args.out.now c.args.copies.now.of_sender c.args.copies.now.of_receiver c.args.tray.now c.hand_over.new.tray c.args.stubs.now c.index-stubs-i.result c.index-stubs-i-2.result short
    c.send.new.self c.send.ensures.stub c.spread.new.stubs c.spread.ensures.many c.spread.ensures.each c.hand_over.new.self c.hand_over.ensures.stub c.forget_below.new.self c.forget_below.ensures c.hand_over.ensures.tray

pub returns-clause-arrived : goal.returns-clause-arrived
returns-clause-arrived g c =
    let t = g.T.Turns.turn_of in
    let x = c.args.component.now in
    let s = system t x.setup in
    let law : Lawful (machine s) = subst (λ p. Lawful (machine (system t p))) c.setup.ensures c.machine_is_lawful.ensures.lawful in
    let is_n : c.from-i.result ≡ x.number = c.from-i.ensures ∙ c.number.ensures.number in
    let there = c.number.ensures.there in
    let number = c.number.ensures.number in
    let many = c.requires.many in
    let short : x.number < length c.args.stubs.now = omega (arith, there, number, many) in
    tray_to x.number c.from-i.result is_n c.args.bound c.args.bound c.args.out.now c.args.copies.now.of_sender c.args.copies.now.of_receiver c.args.tray.now c.hand_over.new.tray c.args.stubs.now c.index-stubs-i.result c.index-stubs-i-2.result short
    c.send.new.self c.send.ensures.stub c.spread.new.stubs c.spread.ensures.many c.spread.ensures.each s law c.flight_law.ensures.to c.requires.inbox c.requires.arrived c.hand_over.ensures.tray
