-- One component: its record, apart from what is in flight, and what each step does to it and sends.
use Rattle.std.specs.Prelude.{◌≡◌, ℕ, zero, suc, Bool, false, cond, nat_lt, nat_le, Option, None, Some, List, [], ◌∷◌}
use Rattle.virtual_time.specs.Bags.{comes_first, has, inputs, insert, remove, same_item}
use Rattle.virtual_time.specs.Entries.{Entry, Input, Item, Own, below, from, number, replay}
use Rattle.virtual_time.specs.Machine.{Machine}
use Rattle.virtual_time.specs.Reference.{Turn}

-- The record of a component: what it has done since its base, what waits to be done, and the antimessages whose messages
-- have not come.
pub record Record (State Action : Type 0) : Type 0 where
  -- the state at the base
  pub base : State
  -- the number of the first turn after the base
  pub first : ℕ
  -- the done entries, the last one first
  pub done : List (Entry Action)
  -- the inputs not yet done, in order
  pub pending : List (Item Action)
  -- the antimessages that came before their messages, in order
  pub owed : List (Item Action)

-- The component's own next turn as an entry, if it has one.
abbrev pub own_next : {S A : Type 0} → Machine S A → ℕ → Record S A → Option (Entry A)
own_next machine i r =
    let m = number r.first r.done in
    cond (nat_lt (machine.key i m) machine.top) (Some (Own (machine.key i m) (machine.outcome i m (replay machine i r.base r.done)))) None

-- The first pending input where its key is less than that of the own next turn, else the own turn.
abbrev pub least_of : {S A : Type 0} → Machine S A → ℕ → Record S A → List (Item A) → Option (Entry A)
least_of machine i r [] = own_next machine i r
least_of machine i r (x ∷ xs) = cond (nat_lt x.key (machine.key i (number r.first r.done))) (Some (Input x)) (own_next machine i r)

-- The entry that is done next, if there is one.
abbrev pub next_of : {S A : Type 0} → Machine S A → ℕ → Record S A → Option (Entry A)
next_of machine i r = least_of machine i r r.pending

-- All but the first.
abbrev pub without_first : {A : Type 0} → List A → List A
without_first [] = []
without_first (x ∷ xs) = xs

-- The record after the entry was done.
abbrev pub after_entry : {S A : Type 0} → Entry A → Record S A → Record S A
after_entry (Own k o) r = record { base = r.base; first = r.first; done = Own k o ∷ r.done; pending = r.pending; owed = r.owed }
after_entry (Input x) r = record { base = r.base; first = r.first; done = Input x ∷ r.done; pending = without_first r.pending; owed = r.owed }

-- A turn of component i at key k with an output adds one message to what is in flight to each component that receives the action.
abbrev pub sent : {S A : Type 0} → Machine S A → ℕ → ℕ → Option A → ℕ → List (Item A) → List (Item A)
sent machine i k None j xs = xs
sent machine i k (Some a) j xs = cond (machine.receives i a j) (insert machine (record { key = k; action = a }) xs) xs

-- What the entry of component i adds to what is in flight to component j: an input sends nothing.
abbrev pub sent_by : {S A : Type 0} → Machine S A → ℕ → Entry A → ℕ → List (Item A) → List (Item A)
sent_by machine i (Own k o) j xs = sent machine i k o j xs
sent_by machine i (Input x) j xs = xs

-- The inputs among the entries that were taken back are pending again.
abbrev pub returned : {S A : Type 0} → Machine S A → List (Entry A) → List (Item A) → List (Item A)
returned machine [] xs = xs
returned machine (Own k o ∷ es) xs = returned machine es xs
returned machine (Input x ∷ es) xs = returned machine es (insert machine x xs)

-- The record where the entries `back` were taken back, the last one first, and the entries `kept` stay.
abbrev pub back_at : {S A : Type 0} → Machine S A → List (Entry A) → List (Entry A) → Record S A → Record S A
back_at machine back kept r = record { base = r.base; first = r.first; done = kept; pending = returned machine back r.pending; owed = r.owed }

-- The record after its last done entry was taken back.
abbrev pub undone : {S A : Type 0} → Machine S A → List (Entry A) → Record S A → Record S A
undone machine [] r = r
undone machine (e ∷ es) r = back_at machine (e ∷ []) es r

-- The record after a roll-back: its last done entry is taken back, if there is one.
abbrev pub roll_back_of : {S A : Type 0} → Machine S A → Record S A → Record S A
roll_back_of machine r = undone machine r.done r

-- The record after k roll-backs.
abbrev pub roll_back_times : {S A : Type 0} → Machine S A → ℕ → Record S A → Record S A
roll_back_times machine zero r = r
roll_back_times machine (suc k) r = roll_back_times machine k (roll_back_of machine r)

-- What these entries, taken back, the last one first, add to the antimessages in flight to component j.
abbrev pub unsent : {S A : Type 0} → Machine S A → ℕ → List (Entry A) → ℕ → List (Item A) → List (Item A)
unsent machine i [] j xs = xs
unsent machine i (e ∷ es) j xs = unsent machine i es j (sent_by machine i e j xs)

-- What these entries, done, the last one first, added to the messages in flight to component j.
abbrev pub sent_all : {S A : Type 0} → Machine S A → ℕ → List (Entry A) → ℕ → List (Item A) → List (Item A)
sent_all machine i [] j xs = xs
sent_all machine i (e ∷ es) j xs = sent_by machine i e j (sent_all machine i es j xs)

-- The entry is not later than the message.
abbrev pub stays : {S A : Type 0} → Machine S A → Item A → Entry A → Bool
stays machine x (Own k o) = nat_le k x.key
stays machine x (Input y) = comes_first machine y x

-- The done entries that are later than a message.
abbrev pub later : {S A : Type 0} → Machine S A → Item A → List (Entry A) → List (Entry A)
later machine x [] = []
later machine x (e ∷ es) = cond (stays machine x e) [] (e ∷ later machine x es)

-- The done entries that are not later than a message.
abbrev pub not_later : {S A : Type 0} → Machine S A → Item A → List (Entry A) → List (Entry A)
not_later machine x [] = []
not_later machine x (e ∷ es) = cond (stays machine x e) (e ∷ es) (not_later machine x es)

-- The entry is the input of this message.
abbrev pub is_input : {S A : Type 0} → Machine S A → Item A → Entry A → Bool
is_input machine x (Own k o) = false
is_input machine x (Input y) = same_item machine y x

-- The done entries from the last input equal to the message on, that input too.
abbrev pub back_until : {S A : Type 0} → Machine S A → Item A → List (Entry A) → List (Entry A)
back_until machine x [] = []
back_until machine x (e ∷ es) = e ∷ cond (is_input machine x e) [] (back_until machine x es)

-- The done entries before the last input equal to the message.
abbrev pub before_last : {S A : Type 0} → Machine S A → Item A → List (Entry A) → List (Entry A)
before_last machine x [] = []
before_last machine x (e ∷ es) = cond (is_input machine x e) es (before_last machine x es)

-- The entries that the coming of a message takes back: those later than it, unless it is owed.
abbrev pub back_by_message : {S A : Type 0} → Machine S A → Item A → Record S A → List (Entry A)
back_by_message machine x r = cond (has machine x r.owed) [] (later machine x r.done)

-- A message comes: the antimessage that is owed for it is removed; else all that is later is taken back, and it is pending.
abbrev pub message_comes : {S A : Type 0} → Machine S A → Item A → Record S A → Record S A
message_comes machine x r =
    cond (has machine x r.owed) (record { base = r.base; first = r.first; done = r.done; pending = r.pending; owed = remove machine x r.owed })
    (record { base = r.base; first = r.first; done = not_later machine x r.done; pending = insert machine x (returned machine (later machine x r.done) r.pending); owed = r.owed })

-- The entries that the coming of an antimessage takes back: those from its message on, where that is done and none is pending.
abbrev pub back_by_antimessage : {S A : Type 0} → Machine S A → Item A → Record S A → List (Entry A)
back_by_antimessage machine x r = cond (has machine x r.pending) [] (cond (nat_lt 0 (inputs machine r.done x.key x.action)) (back_until machine x r.done) [])

-- An antimessage comes: a pending message is removed; else a done one is taken back with all after it, and removed; else it is owed.
abbrev pub antimessage_comes : {S A : Type 0} → Machine S A → Item A → Record S A → Record S A
antimessage_comes machine x r =
    cond (has machine x r.pending) (record { base = r.base; first = r.first; done = r.done; pending = remove machine x r.pending; owed = r.owed })
    (cond (nat_lt 0 (inputs machine r.done x.key x.action))
    (record { base = r.base; first = r.first; done = before_last machine x r.done; pending = remove machine x (returned machine (back_until machine x r.done) r.pending); owed = r.owed })
    (record { base = r.base; first = r.first; done = r.done; pending = r.pending; owed = insert machine x r.owed }))

-- From one record, these entries were done one after the other, the last one first in the list, and led to the other.
abbrev pub Processes : {S A : Type 0} → Machine S A → ℕ → Record S A → List (Entry A) → Record S A → Type 0
Processes machine i r [] r' = r' ≡ r
Processes {S} {A} machine i r (e ∷ es) r' = (mid : Record S A) × Processes machine i r es mid × (next_of machine i mid ≡ Some e) × (r' ≡ after_entry e mid)

-- The record cut at a bound: the entries below it are dropped, and the base state is the one after them.
abbrev pub cut_of : {S A : Type 0} → Machine S A → ℕ → ℕ → Record S A → Record S A
cut_of machine i b r =
    record { base = replay machine i r.base (below b r.done); first = number r.first (below b r.done); done = from b r.done; pending = r.pending; owed = r.owed }

-- The own turns among these entries.
abbrev pub turns_among : {A : Type 0} → List (Entry A) → List (Turn A)
turns_among [] = []
turns_among (Own k o ∷ es) = record { key = k; outcome = o } ∷ turns_among es
turns_among (Input x ∷ es) = turns_among es
