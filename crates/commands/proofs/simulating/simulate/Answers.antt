use Rattle.std.proofs.lemmas.Result.{IfErr-weaker, on_ok_weaker}
use Rattle.task_seed.specs.Setups.{plan_of, system}
use Rattle.trace.specs.Given.{stops}
use Rattle.trace.specs.GivenHead.{stopped_behind, written_behind}
use Rattle.trace.specs.Headed.{Behind, headed}
use Rattle.trace.specs.Puts.{Stops}
use Rattle.trace.specs.Went.{IsWritten}
use Rattle.commands.proofs.Fronted.{simulated_otherwise, unsimulated_otherwise}
use Rattle.commands.proofs.Streaming.{of_any}
use Rattle.commands.proofs.simulating.simulate.Goals as goal

pub returns-in-Ok-clause-simulated : goal.returns-in-Ok-clause-simulated
returns-in-Ok-clause-simulated g c =
    let known = g.W.Write.contents in
    let head = c.args.form.head in
    let new = c.simulate_on.new.out in
    let setup = c.args.setup in
    let whole = simulated_otherwise (plan_of setup) (system g.T.Turns.turn_of setup) c.args.form.lines (IsWritten known c.write_front.new.out new) (Behind head (IsWritten known c.args.out.now new)) (written_behind head c.in-Ok.ensures.ok new) in
    on_ok_weaker c.simulate_on.result whole c.simulate_on.ensures.simulated

pub returns-in-Ok-clause-unsimulated : goal.returns-in-Ok-clause-unsimulated
returns-in-Ok-clause-unsimulated g c =
    let known = g.W.Write.contents in
    let head = c.args.form.head in
    let mid = c.write_front.new.out in
    let new = c.simulate_on.new.out in
    let front = c.in-Ok.ensures.ok in
    let setup = c.args.setup in
    IfErr-weaker c.simulate_on.result _ _
    (unsimulated_otherwise (plan_of setup) (system g.T.Turns.turn_of setup) c.args.form.lines (IsWritten known mid new) (Behind head (IsWritten known c.args.out.now new)) (Stops known mid new c.in-Ok.before)
    (λ text. Stops known c.args.out.now new 0 (headed head text)) (written_behind head front new) (stopped_behind head front new)) c.simulate_on.ensures.unsimulated

pub returns-in-Err-clause-unsimulated : goal.returns-in-Err-clause-unsimulated
returns-in-Err-clause-unsimulated g c =
    of_any (plan_of c.args.setup) (system g.T.Turns.turn_of c.args.setup) c.known_law.ensures (λ text. Stops g.W.Write.contents c.args.out.now c.write_front.new.out 0 (headed c.args.form.head text) c.in-Err.fault)
    (λ text. stops text c.in-Err.ensures.err)
