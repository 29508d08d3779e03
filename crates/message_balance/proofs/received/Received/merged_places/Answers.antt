use Rattle.std.proofs.Common.{◌+◌, ap, ◌∙◌}
use Rattle.event_keys.specs.declared.message.Sign.TheVariants.{Plus, Minus}
use Rattle.message_balance.specs.Balance.{count_as}
use Rattle.message_balance.specs.Walks.{count_inputs}
use Rattle.message_balance.proofs.received.Received.merged_places.Goals as goal

pub returns : goal.returns
returns c message =
    let done = c.inputs.ensures message ∙ ap (count_inputs message) c.iter.ensures in
    let pending = c.with_sign.ensures message ∙ ap (count_as Plus message) c.iter-2.ensures in
    let tray = c.with_sign-2.ensures message ∙ ap (count_as Plus message) c.iter-3.ensures.items in
    c.new.ensures message ∙ (λ v. done v + pending v + tray v)
