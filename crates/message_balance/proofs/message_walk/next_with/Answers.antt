use Rattle.std.proofs.Common.{◌≡◌, ◌∷◌, length, sym, ap, ◌∙◌, arith}
use Rattle.message_balance.specs.Balance.{count_as}
use Rattle.message_balance.proofs.NextMessages.{found_with, passed_with}
use Rattle.message_balance.proofs.message_walk.next_with.Goals as goal

pub returns-then-eq-clause-count : goal.returns-then-eq-clause-count
returns-then-eq-clause-count c message =
    let step : c.loop-signed.items ≡ c.in-Some.signed.now ∷ c.next.new.self = c.in-Some.ensures.steps in
    sym (c.loop-signed.invariant.count message) ∙ ap (count_as c.args.sign message) step ∙ found_with c.args.sign c.in-Some.signed.now c.next.new.self message (sym c.eq.ensures ∙ c.if-eq.true)

pub loop-signed-preserved : goal.loop-signed-preserved
loop-signed-preserved c =
    let step : c.loop-signed.items ≡ c.in-Some.signed.now ∷ c.next.new.self = c.in-Some.ensures.steps in
    let more = ap length step in
    let short = c.loop-signed.invariant.short in
    record {
      count = λ message. sym (ap (count_as c.args.sign message) step ∙ passed_with c.args.sign c.in-Some.signed.now c.next.new.self message (sym c.eq.ensures ∙ c.if-eq.false)) ∙ c.loop-signed.invariant.count message;
      short = omega (arith, more, short);
    }

pub returns-clause-count : goal.returns-clause-count
returns-clause-count c message =
    let none : count_as c.args.sign message c.loop-signed.items ≡ 0 = ap (count_as c.args.sign message) c.in_default.ensures.steps.0 in
    let left : count_as c.args.sign message c.next.new.self ≡ 0 = ap (count_as c.args.sign message) c.in_default.ensures.steps.1 in
    let kept = c.loop-signed.invariant.count message in
    omega (arith, kept, none, left)
