use Rattle.std.proofs.Common.{◌≡◌, ◌+◌, ap, sym, ◌∙◌, arith}
use Rattle.event_keys.specs.declared.message.Sign.TheVariants.{Plus, Minus}
use Rattle.message_balance.specs.Balance.{all_of, count_as}
use Rattle.message_balance.specs.Walks.{count_turns}
use Rattle.message_balance.proofs.sent.Sent.is_in_order.Goals as goal

pub returns : goal.returns
returns c one_is message =
    let minuses : count_as Minus message c.args.self.out.now ≡ 0 = sym (ap (count_as Minus message) c.iter.ensures.items) ∙ c.has_none_with.ensures c.if-not-has_none_with.false message in
    let nothing : count_as Minus message (all_of c.new-none.result) ≡ 0 = ap (λ a. count_as Minus message (all_of a)) c.new-none.ensures in
    let sent = c.antimessages-sent.ensures message ∙ (λ v. count_as Minus message (c.iter-2.ensures v) + count_turns message (c.iter-3.ensures v)) in
    let standing = c.with_sign-standing.ensures message ∙ ap (count_as Plus message) c.iter-4.ensures.items in
    let out = c.with_sign-out.ensures message ∙ ap (count_as Plus message) c.iter-5.ensures.items in
    let whole = c.are_joined-is_same.ensures one_is message in
    omega (arith, minuses, nothing, sent, standing, out, whole)
