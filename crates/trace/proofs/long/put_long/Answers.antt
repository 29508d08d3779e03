use Rattle.std.proofs.Common.{rules, [], ◌∷◌, ◌++◌}
use Rattle.trace.specs.Given.{stops, then_stops}
use Rattle.trace.specs.Lines.{action_text}
use Rattle.trace.proofs.Adding.{then_fails}
use Rattle.trace.proofs.long.put_long.Goals as goal

pub returns-in_err-written-2-clause-err : goal.returns-in_err-written-2-clause-err
returns-in_err-written-2-clause-err g c =
    let h = then_stops c.in_ok-written.ensures.ok (stops (10 ∷ []) c.in_err-written-2.ensures.err) in
    search (rules, h)

pub returns-clause-err : goal.returns-clause-err
returns-clause-err g c =
    let out = c.put.new.out in
    let end = then_fails out (10 ∷ []) c.put.result c.in_ok-written-2.ensures.ok c.put.ensures.err in
    then_fails out (action_text c.args.plan.now c.args.action.now ++ 10 ∷ []) c.put.result c.in_ok-written.ensures.ok end
