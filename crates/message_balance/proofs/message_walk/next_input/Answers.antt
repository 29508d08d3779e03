use Rattle.std.proofs.Common.{◌≡◌, ◌∷◌, length, refl, sym, ap, ◌∙◌, arith}
use Rattle.message_balance.specs.declared.done.Done.TheVariants.{Turn, Input}
use Rattle.message_balance.specs.Walks.{count_inputs}
use Rattle.message_balance.proofs.NextMessages.{found_input, passed_input, passed_turn}
use Rattle.message_balance.proofs.message_walk.next_input.Goals as goal

pub returns-then-eq-clause-count : goal.returns-then-eq-clause-count
returns-then-eq-clause-count c message =
    let step : c.loop-done.items ≡ Input c.value-signed.result.now ∷ c.next.new.self = c.in-Some.ensures.steps ∙ cc in
    sym (c.loop-done.invariant.count message) ∙ ap (count_inputs message) step ∙ found_input c.value-signed.result.now c.next.new.self message (sym c.eq.ensures ∙ c.if-eq.true)

pub loop-done-preserved-else-eq : goal.loop-done-preserved-else-eq
loop-done-preserved-else-eq c =
    let step : c.loop-done.items ≡ Input c.value-signed.result.now ∷ c.next.new.self = c.in-Some.ensures.steps ∙ cc in
    let more = ap length step in
    let short = c.loop-done.invariant.short in
    record {
      count = λ message. sym (ap (count_inputs message) step ∙ passed_input c.value-signed.result.now c.next.new.self message (sym c.eq.ensures ∙ c.if-eq.false)) ∙ c.loop-done.invariant.count message;
      short = omega (arith, more, short);
    }

pub loop-done-preserved : goal.loop-done-preserved
loop-done-preserved c =
    let turn = Turn c.in_default-done.field-0 c.in_default-done.field-1 in
    let step : c.loop-done.items ≡ turn ∷ c.next.new.self = c.in-Some.ensures.steps ∙ cc in
    let more = ap length step in
    let short = c.loop-done.invariant.short in
    record {
      count = λ message. sym (ap (count_inputs message) step ∙ passed_turn turn c.next.new.self message refl) ∙ c.loop-done.invariant.count message;
      short = omega (arith, more, short);
    }

pub returns-clause-count : goal.returns-clause-count
returns-clause-count c message =
    let none : count_inputs message c.loop-done.items ≡ 0 = ap (count_inputs message) c.in_default.ensures.steps.0 in
    let left : count_inputs message c.next.new.self ≡ 0 = ap (count_inputs message) c.in_default.ensures.steps.1 in
    let kept = c.loop-done.invariant.count message in
    omega (arith, kept, none, left)
