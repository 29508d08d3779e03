use Rattle.std.proofs.Common.{◌∙◌, ap, sym}
use Rattle.event_keys.specs.declared.message.Signed.{Signed}
use Rattle.message_balance.specs.Balance.{is_input_balanced, is_taken_balanced}
use Rattle.message_balance.proofs.received.Received.is_input_balanced.Goals as goal

pub returns-in-Input : goal.returns-in-Input
returns-in-Input c =
    c.is_balanced.ensures
    ∙ ap (λ (s : Signed). is_taken_balanced c.args.self s.message) c.value.ensures
    ∙ ap (is_input_balanced c.args.self) (sym c.in-Input.is)
