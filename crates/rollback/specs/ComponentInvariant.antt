-- What a component keeps, and the record that it stands for.
use Rattle.std.specs.Prelude.{◌≡◌, ℕ, ◌<◌, ◌&&◌, ◌||◌, not, nat_lt, Bool, true, false, List, [], ◌∷◌, map, Option, Some, IfSome, length}
use Rattle.raw_events.specs.Around.{Around}
use Rattle.terms.specs.Datum.{Datum}
use Rattle.terms.specs.Named.{Named}
use Rattle.event_keys.specs.declared.key.Key.{Key}
use Rattle.event_keys.specs.declared.message.Sign.{Sign}
use Rattle.event_keys.specs.declared.message.Sign.TheVariants.{Plus, Minus}
use Rattle.event_keys.specs.declared.message.Signed.{Signed}
use Rattle.event_keys.specs.declared.outcome.Outcome.{Outcome}
use Rattle.event_keys.specs.declared.outcome.Outcome.TheVariants.{Idle, Did}
use Rattle.event_keys.specs.Entries.{action_of}
use Rattle.event_keys.specs.Ranks.{rank}
use Rattle.event_keys.specs.contracts.message.MessagePartialEq.TheImpl as message_eq
use Rattle.std.specs.Ordering.{is_gt}
use Rattle.antimessage.specs.Counts.{Each, signed_cmp}
use Rattle.antimessage.specs.Order.{Fits, IsInOrder}
use Rattle.undo_records.specs.First.{first_state}
use Rattle.undo_records.specs.States.{States}
use Rattle.io_automata.specs.Signatures.{receivers_of}
use Rattle.virtual_time.specs.Entries.{Entry, Own, Input as Received, entry_key, number, replay}
use Rattle.virtual_time.specs.Records.{Record}
use Rattle.task_seed.specs.Turning.{System, key_of}
use Rattle.task_seed.specs.Machines.{machine, end_rank}
use Rattle.task_seed.specs.Clocks.{IsTurnKey}
use Rattle.message_balance.specs.declared.done.Done.{Done}
use Rattle.message_balance.specs.declared.done.Done.TheVariants.{Turn, Input}
use Rattle.rollback.specs.Falling.{IsFalling}
use Rattle.rollback.specs.Flight.{goes, item_of, items_of, AllGo}
use Rattle.rollback.specs.Post.{signed_to}
use Rattle.rollback.specs.Replays.{replays_below}

-- a done entry of the code as one of the theory
abbrev pub entry_of : Done → Entry Named
entry_of (Turn turned antimessages) = Own (rank turned.key) (action_of turned.outcome)
entry_of (Input signed) = Received (item_of signed)

abbrev pub entries_of : List Done → List (Entry Named)
entries_of = map entry_of

-- the components that receive what came of a turn of component i
abbrev pub turn_receivers : System → ℕ → Outcome → List ℕ
turn_receivers s i Idle = []
turn_receivers s i (Did action) = receivers_of s.composition action i

-- what came of a turn as a message to each of these, with a sign
abbrev pub signed_by : Sign → Key → Outcome → List ℕ → List Signed
signed_by sign key Idle js = []
signed_by sign key (Did action) js = map (signed_to sign key action) js

-- the messages of a turn of component i with this outcome, one for each receiver, with a sign
abbrev pub signed_of : System → Sign → ℕ → Key → Outcome → List Signed
signed_of s sign i key outcome = signed_by sign key outcome (turn_receivers s i outcome)

-- a turn has its key, and its antimessages lie ready; an input is a message to this component
abbrev pub IsReady : System → ℕ → ℕ → Done → Type 0
IsReady s i n (Turn turned antimessages) = (Some turned.key ≡ key_of s i n) × IsTurnKey turned.key × (antimessages ≡ record { before = signed_of s Minus i turned.key turned.outcome; after = [] })
IsReady s i n (Input signed) = (goes Plus i signed ≡ true) × Fits signed × (rank signed.message.key < end_rank)

abbrev pub AllReady : System → ℕ → ℕ → List Done → Type 0
AllReady s i first [] = Unit {0}
AllReady s i first (d ∷ done) = IsReady s i (number first (entries_of done)) d × AllReady s i first done

-- the number of the next own turn, where that of the first after the base is given
abbrev pub next_number : ℕ → Around Done → ℕ
next_number first done = number first (entries_of done.before)

-- the key is below the end
abbrev pub IsTimed : Signed → Type 0
IsTimed s = rank s.message.key < end_rank

abbrev pub base_state : States → List Datum
base_state = first_state

-- the record that the parts stand for
abbrev pub record_of : States → ℕ → Around Done → Around Signed → Around Signed → Record (List Datum) Named
record_of states first done pending owed = record { base = base_state states; first = first; done = entries_of done.before; pending = items_of pending.after; owed = items_of owed.after }

-- the states are those of the done entries
pub record IsReplayed (s : System) (i : ℕ) (states : States) (done : List Done) : Type 0 where
  pub current : states.current ≡ replay (machine s) i (base_state states) (entries_of done)
  pub below : states.below ≡ replays_below (machine s) i (base_state states) (entries_of done)

-- signed messages of one sign to component i, in order, all after the cursor
pub record IsQueue (sign : Sign) (i : ℕ) (queue : Around Signed) : Type 0 where
  pub front : queue.before ≡ []
  pub order : IsInOrder queue.after
  pub go : AllGo sign i queue.after
  pub timed : Each IsTimed queue.after

-- what the fields of component i of a setup keep
pub record IsValidComponent (s : System) (i first : ℕ) (states : States) (done : Around Done) (pending owed : Around Signed) (coming : Option Key) : Type 0 where
  pub there : i < length s.composition
  pub replayed : IsReplayed s i states done.before
  pub ready : AllReady s i first done.before
  pub ahead : done.after ≡ []
  pub next : coming ≡ key_of s i (number first (entries_of done.before))
  pub small : IfSome coming IsTurnKey
  pub waiting : IsQueue Plus i pending
  pub owing : IsQueue Minus i owed
  pub falling : IsFalling (entries_of done.before) (items_of pending.after) coming

-- an input goes back before all that is pending
abbrev pub IsGivenBack : Done → Around Signed → Around Signed → Type 0
IsGivenBack (Turn turned antimessages) old new = Unit {0}
IsGivenBack (Input signed) old new = new ≡ record { before = old.before; after = signed ∷ old.after }

-- a done entry is an own turn of a greater key, or a greater input
abbrev pub is_done_later : Signed → Done → Bool
is_done_later x (Turn turned antimessages) = nat_lt (rank x.message.key) (rank turned.key)
is_done_later x (Input signed) = is_gt (signed_cmp signed x)

-- a done entry is the input of the message that x has
abbrev pub is_entry_input : Signed → Done → Bool
is_entry_input x (Turn turned antimessages) = false
is_entry_input x (Input signed) = message_eq.ghosts.eq signed.message x.message

-- there is an entry, and the first one is not that input
abbrev pub is_first_another : Signed → List Done → Bool
is_first_another x [] = false
is_first_another x (d ∷ ds) = not (is_entry_input x d)

-- there is an entry, and the first one is that input
abbrev pub is_first_input : Signed → List Done → Bool
is_first_input x [] = false
is_first_input x (d ∷ ds) = is_entry_input x d

-- there is an entry, and the first one is neither below the message that x has nor that input
abbrev pub is_first_passed : Signed → List Done → Bool
is_first_passed x [] = false
is_first_passed x (d ∷ ds) = not (nat_lt (entry_key (entry_of d)) (rank x.message.key)) && not (is_entry_input x d)

-- some entry is that input
abbrev pub is_any_input : Signed → List Done → Bool
is_any_input x [] = false
is_any_input x (d ∷ ds) = is_entry_input x d || is_any_input x ds

-- there is an item, and the first one is greater
abbrev pub is_first_greater : Signed → List Signed → Bool
is_first_greater x [] = false
is_first_greater x (y ∷ ys) = is_gt (signed_cmp y x)
