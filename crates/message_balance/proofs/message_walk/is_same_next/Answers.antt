use Rattle.std.proofs.Common.{sym, ap, ◌∙◌}
use Rattle.message_balance.specs.Walks.{count_next}
use Rattle.message_balance.proofs.NextMessages.{once_same}
use Rattle.message_balance.proofs.message_walk.is_same_next.Goals as goal

pub returns-in-Some-other : goal.returns-in-Some-other
returns-in-Some-other c one_is message =
    ap (count_next message) c.in-Some.is ∙ once_same c.in-Some.message.now c.in-Some-other.found.now message (sym c.eq.ensures ∙ one_is) ∙ sym (ap (count_next message) c.in-Some-other.is)
