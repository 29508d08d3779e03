-- A component as its callers see it, and what each call does to it.
use Rattle.std.specs.Prelude.{ℕ, Bool, true, false, is_some, not, List, [], ◌∷◌, Option, None, Some}
use Rattle.terms.specs.Datum.{Datum}
use Rattle.terms.specs.Named.{Named}
use Rattle.event_keys.specs.declared.key.Bound.{Bound}
use Rattle.event_keys.specs.declared.key.Bound.TheVariants.{At}
use Rattle.event_keys.specs.Ranks.{rank_of_bound}
use Rattle.event_keys.specs.declared.message.Sign.{Sign}
use Rattle.event_keys.specs.declared.message.Sign.TheVariants.{Plus, Minus}
use Rattle.virtual_time.specs.Machine.{Machine}
use Rattle.virtual_time.specs.Entries.{Entry, Own, Input, Item, entry_key}
use Rattle.virtual_time.specs.Records.{Record, after_entry, cut_of, sent_by, message_comes, antimessage_comes, back_by_message, back_by_antimessage, stays, is_input}
use Rattle.task_seed.specs.declared.turns.Turn.{Turn}
use Rattle.task_seed.specs.declared.setup.Setup.{Setup}
use Rattle.task_seed.specs.Setups.{system}
use Rattle.task_seed.specs.Machines.{machine}

-- a component of a setup: its number, the bound of its base, and its record
pub record ComponentView (P : Type 0) : Type 0 where
  pub setup : P
  pub number : ℕ
  pub base : Bound
  pub history : Record (List Datum) Named

-- the machine of a setup, where its turns are read by turn_of
abbrev pub machine_of : {T : Type 0} → (T → ℕ → ℕ → Option Turn) → Setup T → Machine (List Datum) Named
machine_of turn_of setup = machine (system turn_of setup)

module _ {S A : Type 0} where
  -- the record after its next entry, where there is one
  abbrev pub processed : Option (Entry A) → Record S A → Record S A
  processed None r = r
  processed (Some e) r = after_entry e r

  -- what its next entry adds to what is in flight to component j
  abbrev pub sent_next : Machine S A → ℕ → Option (Entry A) → ℕ → List (Item A) → List (Item A)
  sent_next m i None j xs = xs
  sent_next m i (Some e) j xs = sent_by m i e j xs

  -- the key of the next entry, or the end where there is none
  abbrev pub next_key : Machine S A → Option (Entry A) → ℕ
  next_key m None = m.top
  next_key m (Some e) = entry_key e

-- a message or an antimessage comes
abbrev pub comes : {S : Type 0} → Machine S Named → Sign → Item Named → Record S Named → Record S Named
comes m Plus x r = message_comes m x r
comes m Minus x r = antimessage_comes m x r

-- the done entries that its coming takes back, the last one first
abbrev pub back_by : {S : Type 0} → Machine S Named → Sign → Item Named → Record S Named → List (Entry Named)
back_by m Plus x r = back_by_message m x r
back_by m Minus x r = back_by_antimessage m x r

-- the next entry is an input
abbrev pub is_receiving : {A : Type 0} → Option (Entry A) → Bool
is_receiving None = false
is_receiving (Some (Own k o)) = false
is_receiving (Some (Input x)) = true

-- the next entry is an own turn
abbrev pub is_turning : {A : Type 0} → Option (Entry A) → Bool
is_turning None = false
is_turning (Some (Own k o)) = true
is_turning (Some (Input x)) = false

-- the key of the last done entry, if there is one
abbrev pub last_key : {A : Type 0} → List (Entry A) → Option ℕ
last_key [] = None
last_key (e ∷ es) = Some (entry_key e)

-- the last done entry is an own turn by which nothing was done
abbrev pub is_last_idle : {A : Type 0} → List (Entry A) → Bool
is_last_idle [] = false
is_last_idle (Own k o ∷ es) = not (is_some o)
is_last_idle (Input x ∷ es) = false

-- the last done entry, the list of it alone
abbrev pub last_of : {A : Type 0} → List (Entry A) → List (Entry A)
last_of [] = []
last_of (e ∷ es) = e ∷ []

module _ {S A : Type 0} where
  -- the record at the start
  abbrev pub start_record : Machine S A → ℕ → Record S A
  start_record m i = record { base = m.start i; first = 0; done = []; pending = []; owed = [] }

module _ {S A : Type 0} where
  -- the last done entry is later than a message
  abbrev pub is_last_later : Machine S A → Item A → List (Entry A) → Bool
  is_last_later m x [] = false
  is_last_later m x (e ∷ es) = not (stays m x e)

  -- there is a last done entry, and it is not the input of the message
  abbrev pub is_last_another : Machine S A → Item A → List (Entry A) → Bool
  is_last_another m x [] = false
  is_last_another m x (e ∷ es) = not (is_input m x e)

-- below it there is no key
abbrev pub lowest_bound : Bound
lowest_bound = At (record { tick = 0; component = 0; number = 0 })

-- component i of a setup at the start
abbrev pub start_held : {T : Type 0} → (T → ℕ → ℕ → Option Turn) → Setup T → ℕ → ComponentView (Setup T)
start_held turn_of setup i = record { setup = setup; number = i; base = lowest_bound; history = start_record (machine_of turn_of setup) i }

-- a component whose entries below a bound are dropped, with the bound as its base
abbrev pub cut_at : {P : Type 0} → Machine (List Datum) Named → Bound → ComponentView P → ComponentView P
cut_at m bound c = record c { base = bound; history = cut_of m c.number (rank_of_bound bound) c.history }
