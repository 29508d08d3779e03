-- Messages that are on two sides equally often.
use Rattle.std.specs.Prelude.{ℕ, ◌+◌, ◌==◌, ◌&&◌, ◌||◌, not, nat_lt, Bool, true, false, List, ◌++◌, reverse, count_by}
use Rattle.std.specs.List.{list_all}
use Rattle.event_keys.specs.declared.message.Message.{Message}
use Rattle.event_keys.specs.declared.message.Sign.{Sign}
use Rattle.event_keys.specs.declared.message.Sign.TheVariants.{Plus, Minus}
use Rattle.event_keys.specs.declared.message.Signed.{Signed}
use Rattle.raw_events.specs.Around.{Around}
use Rattle.antimessage.specs.Bags.{is_one}
use Rattle.antimessage.specs.Counts.{plus}
use Rattle.message_balance.specs.declared.received.Arrivals.{Arrivals}
use Rattle.message_balance.specs.declared.received.Places.{Places}
use Rattle.message_balance.specs.declared.received.Received.{Received}
use Rattle.message_balance.specs.declared.sent.Sent.{Sent}
use Rattle.message_balance.specs.declared.sent.StandingMessages.{StandingMessages}
use Rattle.message_balance.specs.declared.sent.SentMessages.{SentMessages}
use Rattle.message_balance.specs.declared.done.Done.{Done}
use Rattle.message_balance.specs.declared.done.Done.TheVariants.{Turn, Input}

-- a message with a sign
abbrev pub signed_as : Sign → Message → Signed
signed_as sign m = record { message = m; sign = sign }

-- how often a signed message is among these
abbrev pub count_as : Sign → Message → List Signed → ℕ
count_as sign m = count_by (is_one (signed_as sign m))

-- all items of a list, whose cursor may stand anywhere
abbrev pub all_of : {X : Type 0} → Around X → List X
all_of xs = reverse xs.before ++ xs.after

-- a done entry is the input of the message
abbrev pub is_input_of : Message → Done → Bool
is_input_of m (Turn turned antimessages) = false
is_input_of m (Input signed) = is_one (plus m) signed

-- a done entry is a turn by which the message was sent
abbrev pub is_sending_of : Message → Done → Bool
is_sending_of m (Turn turned antimessages) = nat_lt 0 (count_as Minus m (all_of antimessages))
is_sending_of m (Input signed) = false

-- how often the message came, or is still to be removed
abbrev pub count_arrivals : Message → Arrivals → ℕ
count_arrivals m c = count_as Plus m c.taken + count_as Minus m c.owed + count_as Minus m c.tray

-- how often it is done, is pending or waits
abbrev pub count_places : Message → Places → ℕ
count_places m t = count_by (is_input_of m) t.done + count_as Plus m t.pending + count_as Plus m t.tray

-- how often the message stands
abbrev pub count_standing : Message → StandingMessages → ℕ
count_standing m s = count_as Plus m s.standing + count_as Plus m s.out

-- how often it was sent by what is done, or its antimessage has not left
abbrev pub count_sent : Message → SentMessages → ℕ
count_sent m s = count_by (is_sending_of m) s.done + count_as Minus m s.out

-- the message came as often as it is there
abbrev pub is_taken_balanced : Received → Message → Bool
is_taken_balanced t m =
    count_arrivals m (record { taken = t.taken.now; owed = all_of t.owed.now; tray = t.tray.now })
    == count_places m (record { done = all_of t.done.now; pending = all_of t.pending.now; tray = t.tray.now })

-- the same, where it is sent to that component
abbrev pub is_taken_if_to : Received → ℕ → Signed → Bool
is_taken_if_to t to s = not (s.message.to == to) || is_taken_balanced t s.message

-- the same, where the entry is an input
abbrev pub is_input_balanced : Received → Done → Bool
is_input_balanced t (Turn turned antimessages) = true
is_input_balanced t (Input signed) = is_taken_balanced t signed.message

-- the same of all messages to component `to`
abbrev pub is_all_taken : Received → ℕ → Bool
is_all_taken t to =
    (((list_all (is_taken_if_to t to) t.taken.now && list_all (is_taken_if_to t to) t.tray.now)
    && list_all (is_taken_if_to t to) (all_of t.pending.now)) && list_all (is_taken_if_to t to) (all_of t.owed.now))
    && list_all (is_input_balanced t) (all_of t.done.now)

-- the message stands as often as it was sent
abbrev pub is_sent_balanced : Sent → Message → Bool
is_sent_balanced s m =
    count_standing m (record { standing = s.standing.now; out = s.out.now })
    == count_sent m (record { done = all_of s.done.now; out = s.out.now })

-- the same, where it has a key of that component
abbrev pub is_sent_if_from : Sent → ℕ → Signed → Bool
is_sent_if_from s from x = not (x.message.key.component == from) || is_sent_balanced s x.message

-- the same of each message of an entry that is a turn
abbrev pub is_turn_balanced : Sent → ℕ → Done → Bool
is_turn_balanced s from (Turn turned antimessages) = list_all (is_sent_if_from s from) (all_of antimessages)
is_turn_balanced s from (Input signed) = true

-- the same of all messages of component `from`
abbrev pub is_all_sent : Sent → ℕ → Bool
is_all_sent s from =
    (list_all (is_sent_if_from s from) s.standing.now && list_all (is_sent_if_from s from) s.out.now)
    && list_all (is_turn_balanced s from) (all_of s.done.now)
