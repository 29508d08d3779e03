use Rattle.std.proofs.Common.{sym, ◌∙◌}
use Rattle.message_balance.proofs.AllBalanced.{all_taken}
use Rattle.message_balance.proofs.received.Received.is_matched.Goals as goal

pub returns-then-has_same_messages : goal.returns-then-has_same_messages
returns-then-has_same_messages c = c.if-has_same_messages.true ∙ sym (all_taken c.args.self c.args.to (c.has_same_messages.ensures c.if-has_same_messages.true))
