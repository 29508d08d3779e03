use Rattle.std.proofs.Common.{sym, ◌∙◌}
use Rattle.std.proofs.lemmas.Bool.{eq-eqb}
use Rattle.message_balance.proofs.received.Received.has_same_merged.Goals as goal

pub returns : goal.returns
returns c one_is message =
    eq-eqb _ _ (sym (c.merged_arrivals-arrivals.ensures message) ∙ c.same_messages_merged-is_same.ensures one_is message ∙ c.merged_places-places.ensures message)
