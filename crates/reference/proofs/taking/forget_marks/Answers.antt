use Rattle.std.proofs.Common.{inl, inr, arith}
use Rattle.reference.proofs.Owning.{all_released, own_before}
use Rattle.reference.proofs.taking.forget_marks.Goals as goal

pub forget_others-requires-clause-marked : goal.forget_others-requires-clause-marked
forget_others-requires-clause-marked c j state there apart at = c.requires.marked j state (inr there) at

pub bounds-states-from : goal.bounds-states-from
bounds-states-from c =
    let many = c.forget_others.ensures.many in
    let own = c.requires.own in
    let is = c.from.ensures in
    omega (arith, many, own, is)

pub forget_first-requires : goal.forget_first-requires
forget_first-requires c =
    let many = c.forget_others.ensures.many in
    let own = c.requires.own in
    let is = c.from.ensures in
    let before = own_before c.args.i c.args.among.now c.args.states.now c.forget_others.new.states c.forget_others.ensures c.from.result c.from.ensures (omega (arith, many, own, is)) c.index-states-from.result in
    let some = c.requires.marked c.from.result _ (inl c.from.ensures) before in
    omega (arith, some)

pub returns-clause-each : goal.returns-clause-each
returns-clause-each c =
    let many = c.forget_others.ensures.many in
    let own = c.requires.own in
    let is = c.from.ensures in
    all_released c.args.i c.args.among.now c.args.states.now c.forget_others.new.states c.forget_others.ensures c.from.result c.from.ensures (omega (arith, many, own, is)) c.index-states-from.result c.forget_first.new.self c.forget_first.ensures
