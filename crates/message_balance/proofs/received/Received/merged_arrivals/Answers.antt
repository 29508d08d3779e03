use Rattle.std.proofs.Common.{◌+◌, ap, ◌∙◌}
use Rattle.event_keys.specs.declared.message.Sign.TheVariants.{Plus, Minus}
use Rattle.message_balance.specs.Balance.{count_as}
use Rattle.message_balance.proofs.received.Received.merged_arrivals.Goals as goal

pub returns : goal.returns
returns c message =
    let taken = c.with_sign.ensures message ∙ ap (count_as Plus message) c.iter.ensures.items in
    let owed = c.with_sign-2.ensures message ∙ ap (count_as Minus message) c.iter-2.ensures in
    let tray = c.with_sign-3.ensures message ∙ ap (count_as Minus message) c.iter-3.ensures.items in
    c.new.ensures message ∙ (λ v. taken v + owed v + tray v)
