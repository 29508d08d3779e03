use Rattle.std.proofs.Common.{◌∙◌}
use Rattle.group_exchange.proofs.Copied.{added, same_message}
use Rattle.group_exchange.proofs.copying.add_copy.Goals as goal

pub returns-in-Ok : goal.returns-in-Ok
returns-in-Ok c = added c.args.signed.now c.in-Ok.cell c.args.copies.now c.post.new.self (c.in-Ok.ensures ∙ same_message c.args.signed.now c.in_ok-clone.field-0 c.in_ok-clone.ensures.cases c.in-Plus.is) c.in-Plus.is c.post.ensures.posted
