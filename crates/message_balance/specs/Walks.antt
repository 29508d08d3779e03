-- How often a message comes from a source, and from three together.
use Rattle.std.specs.Prelude.{ℕ, ◌+◌, cond, Option, None, Some, List, [], ◌∷◌, count_by, length}
use Rattle.std.specs.Borrow.{Bor}
use Rattle.event_keys.specs.declared.message.Message.{Message}
use Rattle.event_keys.specs.declared.message.Sign.TheVariants.{Minus}
use Rattle.antimessage.specs.Counts.{is_same, plus}
use Rattle.message_balance.specs.declared.done.Done.{Done}
use Rattle.message_balance.specs.declared.done.Done.TheVariants.{Turn, Input}
use Rattle.message_balance.specs.declared.message_walk.Peeked.{Peeked}
use Rattle.message_balance.specs.declared.message_walk.MergedMessages.{MergedMessages}
use Rattle.message_balance.specs.declared.message_walk.Antimessages.{Antimessages}
use Rattle.message_balance.specs.declared.message_walk.OfSign.{OfSign}
use Rattle.message_balance.specs.declared.message_walk.MessageSource.{MessageSource}
use Rattle.message_balance.specs.declared.message_walk.MessageSource.TheVariants.{Nothing, WithSign, Inputs, Turns}
use Rattle.message_balance.specs.Balance.{all_of, count_as, is_input_of}

-- 1 where it is the message, else 0
abbrev pub once : Message → Message → ℕ
once m x = cond (is_same (plus x) (plus m)) 1 0

-- among the inputs of done entries
abbrev pub count_inputs : Message → List Done → ℕ
count_inputs m = count_by (is_input_of m)

-- among the antimessages of done turns
abbrev pub count_turns : Message → List Done → ℕ
count_turns m [] = 0
count_turns m (Turn turned antimessages ∷ ds) = count_as Minus m (all_of antimessages) + count_turns m ds
count_turns m (Input signed ∷ ds) = count_turns m ds

-- among those that are left of one turn and those of the others
abbrev pub count_sendings : Message → Antimessages → ℕ
count_sendings m s = count_as Minus m s.turn + count_turns m s.rest

-- among those with a sign
abbrev pub count_with_sign : Message → OfSign → ℕ
count_with_sign m s = count_as s.sign m s.items

abbrev pub count_source : Message → MessageSource → ℕ
count_source m Nothing = 0
count_source m (WithSign s) = count_with_sign m s
count_source m (Inputs items) = count_inputs m items
count_source m (Turns s) = count_sendings m s

abbrev pub count_next : Message → Option (Bor Message) → ℕ
count_next m None = 0
count_next m (Some x) = once m x.now

abbrev pub count_peeked : Message → Peeked → ℕ
count_peeked m a = count_next m a.next + count_source m a.rest

abbrev pub count_merged : Message → MergedMessages → ℕ
count_merged m s = count_peeked m s.first + count_peeked m s.second + count_peeked m s.third

-- how many items are still to come
abbrev pub size_turns : List Done → ℕ
size_turns [] = 0
size_turns (Turn turned antimessages ∷ ds) = 1 + length (all_of antimessages) + size_turns ds
size_turns (Input signed ∷ ds) = 1 + size_turns ds

abbrev pub size_sendings : Antimessages → ℕ
size_sendings s = length s.turn + size_turns s.rest

abbrev pub size_source : MessageSource → ℕ
size_source Nothing = 0
size_source (WithSign s) = length s.items
size_source (Inputs items) = length items
size_source (Turns s) = size_sendings s

abbrev pub size_next : Option (Bor Message) → ℕ
size_next None = 0
size_next (Some x) = 1

abbrev pub size_peeked : Peeked → ℕ
size_peeked a = size_next a.next + size_source a.rest

abbrev pub size_merged : MergedMessages → ℕ
size_merged s = size_peeked s.first + size_peeked s.second + size_peeked s.third
