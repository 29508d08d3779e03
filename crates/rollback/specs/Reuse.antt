-- What becomes of a done entry whose cell serves again.
use Rattle.std.specs.Prelude.{Bool, true, false}
use Rattle.event_keys.specs.declared.message.Signed.{Signed}
use Rattle.event_keys.specs.declared.outcome.Turned.{Turned}
use Rattle.raw_events.specs.Around.{Around}
use Rattle.message_balance.specs.declared.done.Done.{Done}
use Rattle.message_balance.specs.declared.done.Done.TheVariants.{Turn, Input}

abbrev pub is_turn : Done → Bool
is_turn (Turn turned antimessages) = true
is_turn (Input signed) = false

-- a turn with another turn in its place, and an input as it is
abbrev pub with_turned : Turned → Done → Done
with_turned other (Turn turned antimessages) = Turn other antimessages
with_turned other (Input signed) = Input signed

-- a turn with other antimessages, and an input as it is
abbrev pub with_sent : Around Signed → Done → Done
with_sent other (Turn turned antimessages) = Turn turned other
with_sent other (Input signed) = Input signed

-- the turn of an entry, or this one where it is an input
abbrev pub turned_of : Turned → Done → Turned
turned_of other (Turn turned antimessages) = turned
turned_of other (Input signed) = other
