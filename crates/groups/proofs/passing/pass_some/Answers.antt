use Rattle.std.proofs.Common.{subst, sym, ◌∙◌}
use Rattle.antimessage.specs.Order.{IsInOrder}
use Rattle.groups.proofs.Passed.{passed_next, split}
use Rattle.groups.proofs.passing.pass_some.Goals as goal

pub returns-then-pass-clause-passed : goal.returns-then-pass-clause-passed
returns-then-pass-clause-passed g c =
    let l = c.loop-cell in
    passed_next g.T.Turns.turn_of c.args.members.now l.members c.pass.new.members c.args.sent.now l.sent c.take_first.new.self c.pass.new.sent c.args.out.now l.out c.pass.new.out c.in-Some.cell l.invariant.passed (sym c.in-Some.is ∙ c.take_first.ensures.taken) c.take_first.ensures.rest c.pass.ensures.passed

pub loop-cell-preserved : goal.loop-cell-preserved
loop-cell-preserved g c =
    let l = c.loop-cell in
    record {
      passed = passed_next g.T.Turns.turn_of c.args.members.now l.members c.pass.new.members c.args.sent.now l.sent c.take_first.new.self c.pass.new.sent c.args.out.now l.out c.pass.new.out c.in-Some.cell l.invariant.passed (sym c.in-Some.is ∙ c.take_first.ensures.taken) c.take_first.ensures.rest c.pass.ensures.passed;
      depth = c.pass.ensures.depth c.if-pass.false ∙ l.invariant.depth;
      order = c.order_law-in-Some.ensures;
    }

pub pass-requires-clause-order : goal.pass-requires-clause-order
pass-requires-clause-order g c = λ _ _.
    let l = c.loop-cell in
    subst IsInOrder (split c.in-Some.cell l.sent c.take_first.new.self (sym c.in-Some.is ∙ c.take_first.ensures.taken) c.take_first.ensures.rest) l.invariant.order
