use Rattle.std.proofs.Common.{◌≡◌, ap, ◌∙◌, arith}
use Rattle.std.proofs.lemmas.Bool.{eq-eqb}
use Rattle.event_keys.specs.declared.message.Sign.TheVariants.{Plus, Minus}
use Rattle.message_balance.specs.Balance.{all_of, count_as}
use Rattle.message_balance.specs.Walks.{count_inputs}
use Rattle.message_balance.proofs.NextMessages.{empty_then}
use Rattle.message_balance.proofs.received.Received.has_same_done.Goals as goal

pub returns : goal.returns
returns c one_is message =
    let tray = empty_then c.args.self.tray.now c.is_empty.result c.is_empty.ensures c.if-not-is_empty.false in
    let pending = c.is_something.ensures c.if-is_something.false in
    let owed = c.is_something-else-is_something.ensures c.if-is_something-2.false in
    let left = c.with_sign-arrivals.ensures message ∙ ap (count_as Plus message) c.iter.ensures.items in
    let right = c.inputs-inputs.ensures message ∙ ap (count_inputs message) c.iter-2.ensures in
    let same = c.same_messages-is_same.ensures one_is message in
    let minuses : count_as Minus message c.args.self.tray.now ≡ 0 = ap (count_as Minus message) tray in
    let pluses : count_as Plus message c.args.self.tray.now ≡ 0 = ap (count_as Plus message) tray in
    let owing : count_as Minus message (all_of c.args.self.owed.now) ≡ 0 = ap (count_as Minus message) owed in
    let waiting : count_as Plus message (all_of c.args.self.pending.now) ≡ 0 = ap (count_as Plus message) pending in
    eq-eqb _ _ (omega (arith, left, right, same, minuses, pluses, owing, waiting))
