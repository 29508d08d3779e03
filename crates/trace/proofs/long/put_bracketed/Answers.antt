use Rattle.std.proofs.Common.{rules, ◌++◌}
use Rattle.std.specs.Prelude.{codes}
use Rattle.trace.specs.Lines.{argument_text, others_text}
use Rattle.trace.specs.Given.{stops, then_stops}
use Rattle.trace.proofs.Adding.{then_fails, then_goes_on}
use Rattle.trace.proofs.long.put_bracketed.Goals as goal

pub returns-in_err-written-2-clause-err : goal.returns-in_err-written-2-clause-err
returns-in_err-written-2-clause-err g c =
    let h = then_stops c.in_ok-written.ensures.ok (stops (others_text c.args.plan.now c.args.others.now ++ codes ")") c.in_err-written-2.ensures.err) in
    search (rules, h)

pub returns-in_err-written-3-clause-err : goal.returns-in_err-written-3-clause-err
returns-in_err-written-3-clause-err g c =
    let h = then_stops c.in_ok-written.ensures.ok (then_stops c.in_ok-written-2.ensures.ok (stops (codes ")") c.in_err-written-3.ensures.err)) in
    search (rules, h)

pub returns-clause-err : goal.returns-clause-err
returns-clause-err g c =
    let end = codes ")" in
    let rest = others_text c.args.plan.now c.args.others.now ++ end in
    let last = then_fails c.put-2.new.out end c.put-2.result c.in_ok-written-3.ensures.ok c.put-2.ensures.err in
    let middle = then_fails c.put-2.new.out rest c.put-2.result c.in_ok-written-2.ensures.ok last in
    then_fails c.put-2.new.out (argument_text c.args.plan.now c.args.first ++ rest) c.put-2.result c.in_ok-written.ensures.ok middle

pub returns-clause-ok : goal.returns-clause-ok
returns-clause-ok g c =
    let end = codes ")" in
    let rest = others_text c.args.plan.now c.args.others.now ++ end in
    let out = c.put-2.new.out in
    let last = then_goes_on out end c.put-2.result c.in_ok-written-3.ensures.ok c.put-2.ensures.ok in
    let middle = then_goes_on out rest c.put-2.result c.in_ok-written-2.ensures.ok last in
    then_goes_on out (argument_text c.args.plan.now c.args.first ++ rest) c.put-2.result c.in_ok-written.ensures.ok middle
