-- When two done entries are equal.
use Rattle.std.specs.Prelude.{Bool, false}
use Rattle.event_keys.specs.contracts.message.SignedPartialEq.TheImpl as signed_eq
use Rattle.event_keys.specs.contracts.outcome.TurnedPartialEq.TheImpl as turned_eq
use Rattle.message_balance.specs.declared.done.Done.{Done}
use Rattle.message_balance.specs.declared.done.Done.TheVariants.{Turn, Input}

-- a done entry is the same turn, or the same input; what lies ready with a turn isn't looked at
abbrev pub same_done : Done → Done → Bool
same_done (Turn turned minuses) (Turn other others) = turned_eq.ghosts.eq turned other
same_done (Turn turned minuses) (Input y) = false
same_done (Input x) (Turn other others) = false
same_done (Input x) (Input y) = signed_eq.ghosts.eq x y
