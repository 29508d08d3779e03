-- What the laws of components, and of what is in flight, say.
use Rattle.std.specs.Prelude.{◌≡◌, ◌≤◌, ◌+◌, ◌-◌, ◌==◌, ◌&&◌, ℕ, nat_lt, not, cond, List, [], filter, is_some, Some}
use Rattle.terms.specs.Named.{Named}
use Rattle.event_keys.specs.declared.key.Bound.{Bound}
use Rattle.event_keys.specs.declared.message.Message.{Message}
use Rattle.event_keys.specs.declared.message.Sign.{Sign}
use Rattle.event_keys.specs.declared.message.Sign.TheVariants.{Plus, Minus}
use Rattle.event_keys.specs.declared.message.Signed.{Signed}
use Rattle.event_keys.specs.Ranks.{rank_of_bound}
use Rattle.raw_events.specs.Around.{first_where}
use Rattle.antimessage.specs.Bags.{has_pair, insert_all, is_one, is_to, least_of, remove as remove_one, without_below}
use Rattle.antimessage.specs.Counts.{minus, plus}
use Rattle.antimessage.specs.Meetings.{IsAllMet, IsCancelled}
use Rattle.antimessage.specs.Order.{Fits, IsInOrder, KeyFits}
use Rattle.task_seed.specs.Machines.{end_rank, machine}
use Rattle.task_seed.specs.Turning.{System}
use Rattle.virtual_time.specs.Bags.{AllFrom, IsSorted, has, remove, times}
use Rattle.virtual_time.specs.Machine.{Lawful, Machine}
use Rattle.virtual_time.specs.Entries.{Entry, number}
use Rattle.virtual_time.specs.Records.{Record, after_entry, next_of, sent_by}
use Rattle.rollback.specs.Flight.{IsComparable, goes, in_flight, item_of}
use Rattle.rollback.specs.ComponentView.{next_key}
use Rattle.rollback.specs.Post.{IsPosted}
use Rattle.rollback.specs.Runs.{IsRun}

module _ (S : Type 0) where
  -- no entry is a run of none
  abbrev pub NoneRuns : Type 0
  NoneRuns = (m : Machine S Named) (i : ℕ) (r : Record S Named) (bag : List Signed) → IsRun m i r r bag bag 0

  -- a run and its next entry are a run of one more
  abbrev pub OneMoreRuns : Type 0
  OneMoreRuns =
      (m : Machine S Named) (i count : ℕ) (entry : Entry Named) (old new : Record S Named) (old_bag mid_bag new_bag : List Signed)
      → IsRun m i old new old_bag mid_bag count
      → next_of m i new ≡ Some entry
      → IsPosted Plus (sent_by m i entry) mid_bag new_bag
      → IsRun m i old (after_entry entry new) old_bag new_bag (count + 1)

  -- the next key is not above that of the own turn
  abbrev pub OwnIsNotBelowNext : Type 0
  OwnIsNotBelowNext = (m : Machine S Named) (i : ℕ) (r : Record S Named) → Lawful m → next_key m (next_of m i r) ≤ m.key i (number r.first r.done)

  -- nor above that of any pending input
  abbrev pub PendingIsNotBelowNext : Type 0
  PendingIsNotBelowNext = (m : Machine S Named) (i : ℕ) (r : Record S Named) → Lawful m → IsSorted m r.pending → AllFrom (next_key m (next_of m i r)) r.pending

  -- and it is the greatest bound of which both hold
  abbrev pub NextIsGreatest : Type 0
  NextIsGreatest =
      (m : Machine S Named) (i b : ℕ) (r : Record S Named) → Lawful m
      → b ≤ m.key i (number r.first r.done)
      → AllFrom b r.pending
      → b ≤ next_key m (next_of m i r)

-- no key in a bag is below the bag's least
abbrev pub NoneIsBelowLeast : Type 0
NoneIsBelowLeast = (sign : Sign) (j : ℕ) (bag : List Signed) → IsInOrder bag → AllFrom (rank_of_bound (least_of bag)) (in_flight sign j bag)

-- and that is the greatest bound of which it holds
abbrev pub LeastIsGreatest : Type 0
LeastIsGreatest = (b : ℕ) (bag : List Signed) → b ≤ end_rank → ((sign : Sign) (j : ℕ) → AllFrom b (in_flight sign j bag)) → b ≤ rank_of_bound (least_of bag)

-- how often the message of this key and action to component j is in flight with this sign
abbrev pub in_bag : System → Sign → ℕ → ℕ → Named → List Signed → ℕ
in_bag s sign j k a bag = times (machine s) (in_flight sign j bag) k a

-- bags that are put together
abbrev pub AppendedIsAdded : Type 0
AppendedIsAdded = (s : System) (sign : Sign) (j k : ℕ) (a : Named) (more bag : List Signed) → in_bag s sign j k a (insert_all more bag) ≡ in_bag s sign j k a more + in_bag s sign j k a bag

-- what goes to component l
abbrev pub SplitGoesToOne : Type 0
SplitGoesToOne = (sign : Sign) (j l : ℕ) (bag : List Signed) → in_flight sign j (filter (is_to l) bag) ≡ cond (j == l) (in_flight sign j bag) []

-- and the others
abbrev pub RestGoesToOthers : Type 0
RestGoesToOthers = (sign : Sign) (j l : ℕ) (bag : List Signed) → in_flight sign j (filter (λ s. not (is_to l s)) bag) ≡ cond (j == l) [] (in_flight sign j bag)

-- antimessages take their messages out of another bag
abbrev pub MessagesAreCancelled : Type 0
MessagesAreCancelled =
    (s : System) (j k : ℕ) (a : Named) (others old new : List Signed)
    → IsInOrder others
    → IsInOrder old
    → IsInOrder new
    → IsCancelled others old new
    → in_bag s Plus j k a new ≡ in_bag s Plus j k a old - in_bag s Minus j k a others

-- and leave the antimessages
abbrev pub AntimessagesStay : Type 0
AntimessagesStay =
    (s : System) (j k : ℕ) (a : Named) (others old new : List Signed)
    → IsInOrder others
    → IsInOrder old
    → IsInOrder new
    → IsCancelled others old new
    → in_bag s Minus j k a new ≡ in_bag s Minus j k a old

-- messages meet their antimessages in one bag: of the messages the surplus is left
abbrev pub MessagesAreMet : Type 0
MessagesAreMet = (s : System) (j k : ℕ) (a : Named) (old new : List Signed) → IsInOrder old → IsInOrder new → IsAllMet old new → in_bag s Plus j k a new ≡ in_bag s Plus j k a old - in_bag s Minus j k a old

-- and of the antimessages
abbrev pub AntimessagesAreMet : Type 0
AntimessagesAreMet = (s : System) (j k : ℕ) (a : Named) (old new : List Signed) → IsInOrder old → IsInOrder new → IsAllMet old new → in_bag s Minus j k a new ≡ in_bag s Minus j k a old - in_bag s Plus j k a old

-- what is below a bound is dropped
abbrev pub BelowIsDropped : Type 0
BelowIsDropped =
    (s : System) (sign : Sign) (j k : ℕ) (a : Named) (bound : Bound) (bag : List Signed) → IsComparable bound → IsInOrder bag
    → in_bag s sign j k a (without_below bound bag) ≡ cond (nat_lt k (rank_of_bound bound)) 0 (in_bag s sign j k a bag)

-- one is taken out
abbrev pub OneIsTakenOut : Type 0
OneIsTakenOut =
    (s : System) (sign : Sign) (j : ℕ) (x : Signed) (bag : List Signed) → IsInOrder bag → Fits x
    → in_flight sign j (remove_one x bag) ≡ cond (goes sign j x) (remove (machine s) (item_of x) (in_flight sign j bag)) (in_flight sign j bag)

-- one is found where it is in flight
abbrev pub FoundIsInFlight : Type 0
FoundIsInFlight = (s : System) (x : Signed) (bag : List Signed) → IsInOrder bag → Fits x → is_some (first_where (is_one x) bag) ≡ has (machine s) (item_of x) (in_flight x.sign x.message.to bag)

-- a pair is there where the message and its antimessage are in flight
abbrev pub PairIsInFlight : Type 0
PairIsInFlight =
    (s : System) (m : Message) (bag : List Signed) → IsInOrder bag → KeyFits m.key
    → has_pair m bag ≡ (has (machine s) (item_of (plus m)) (in_flight Plus m.to bag) && has (machine s) (item_of (minus m)) (in_flight Minus m.to bag))

-- bags that have the same in flight are the same
abbrev pub SameFlightIsSame : Type 0
SameFlightIsSame = (s : System) (bag other : List Signed) → IsInOrder bag → IsInOrder other → ((sign : Sign) (j : ℕ) → in_flight sign j bag ≡ in_flight sign j other) → bag ≡ other
