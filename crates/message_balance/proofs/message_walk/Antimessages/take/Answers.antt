use Rattle.std.proofs.Common.{◌≡◌, ◌∷◌, false, length, sym, ap, ◌∙◌, arith}
use Rattle.std.specs.Prelude.{is_some}
use Rattle.event_keys.specs.declared.message.Sign.TheVariants.{Minus}
use Rattle.message_balance.specs.declared.done.Done.TheVariants.{Turn, Input}
use Rattle.message_balance.specs.Balance.{all_of, count_as}
use Rattle.message_balance.specs.Walks.{count_turns, size_turns}
use Rattle.message_balance.proofs.NextMessages.{next_none, none_then}
use Rattle.message_balance.proofs.message_walk.Antimessages.take.Goals as goal

pub returns-in-None-clause-count : goal.returns-in-None-clause-count
returns-in-None-clause-count c message =
    let found = c.next_with-found.ensures.count message in
    let not_there : is_some c.next_with-found.result ≡ false = sym c.is_some.ensures ∙ c.if-is_some.false in
    let gone = next_none c.next_with-found.result message not_there in
    let kept = c.loop-found.invariant.count message in
    let before : count_turns message c.loop-found.self.rest ≡ 0 = ap (count_turns message) c.in-None.ensures.steps.0 in
    let after : count_turns message c.next.new.self ≡ 0 = ap (count_turns message) c.in-None.ensures.steps.1 in
    omega (arith, found, gone, kept, before, after)

pub returns-in-None-clause-none : goal.returns-in-None-clause-none
returns-in-None-clause-none c message =
    let not_there : is_some c.next_with-found.result ≡ false = sym c.is_some.ensures ∙ c.if-is_some.false in
    let left = none_then c.next_with-found.result not_there c.next_with-found.ensures.none message in
    let after : count_turns message c.next.new.self ≡ 0 = ap (count_turns message) c.in-None.ensures.steps.1 in
    omega (arith, left, after)

pub loop-found-preserved-in-Some-Turn : goal.loop-found-preserved-in-Some-Turn
loop-found-preserved-in-Some-Turn c =
    let not_there : is_some c.next_with-found.result ≡ false = sym c.is_some.ensures ∙ c.if-is_some.false in
    let step : c.loop-found.self.rest ≡ Turn c.in-Some-Turn.field-0-0 c.in-Some-Turn.antimessages ∷ c.next.new.self = c.in-Some-Turn.ensures.steps ∙ cc in
    let turn : c.swap.new.x ≡ all_of c.in-Some-Turn.antimessages = c.swap.ensures.x_after ∙ c.iter.ensures in
    let long = ap length turn in
    let sizes = ap size_turns step in
    let short = c.loop-found.invariant.short in
    record {
      count = λ message.
          let found = c.next_with-found.ensures.count message in
          let gone = next_none c.next_with-found.result message not_there in
          let left = none_then c.next_with-found.result not_there c.next_with-found.ensures.none message in
          let kept = c.loop-found.invariant.count message in
          let there = ap (count_as Minus message) turn in
          let rest = ap (count_turns message) step in
          omega (arith, found, gone, left, kept, there, rest);
      short = omega (arith, long, sizes, short);
    }

pub loop-found-preserved : goal.loop-found-preserved
loop-found-preserved c =
    let not_there : is_some c.next_with-found.result ≡ false = sym c.is_some.ensures ∙ c.if-is_some.false in
    let step : c.loop-found.self.rest ≡ Input c.in-Some-Input.field-0-0 ∷ c.next.new.self = c.in-Some-Input.ensures.steps ∙ cc in
    let sizes = ap size_turns step in
    let less = c.next_with-found.ensures.less in
    let short = c.loop-found.invariant.short in
    record {
      count = λ message.
          let found = c.next_with-found.ensures.count message in
          let gone = next_none c.next_with-found.result message not_there in
          let kept = c.loop-found.invariant.count message in
          let rest = ap (count_turns message) step in
          omega (arith, found, gone, kept, rest);
      short = omega (arith, less, sizes, short);
    }
