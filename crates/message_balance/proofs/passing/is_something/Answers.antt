use Rattle.std.proofs.Common.{sym, ◌∙◌}
use Rattle.message_balance.proofs.NextMessages.{nothing_first}
use Rattle.message_balance.proofs.passing.is_something.Goals as goal

pub returns : goal.returns
returns c none = nothing_first c.peek_first.result c.args.items.now.before c.args.items.now.after c.peek_first.ensures (sym c.is_some.ensures ∙ none)
