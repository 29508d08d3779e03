-- A component before and after its next entry.
use Rattle.std.specs.Prelude.{◌≡◌, ℕ, ◌+◌, Bool, nat_lt, List, Option, Some, IsSomeAnd}
use Rattle.terms.specs.Datum.{Datum}
use Rattle.terms.specs.Named.{Named}
use Rattle.event_keys.specs.declared.key.Key.{Key}
use Rattle.event_keys.specs.declared.message.Sign.TheVariants.{Plus, Minus}
use Rattle.event_keys.specs.declared.message.Signed.{Signed}
use Rattle.event_keys.specs.declared.outcome.Turned.{Turned}
use Rattle.event_keys.specs.Entries.{action_of}
use Rattle.event_keys.specs.Ranks.{rank}
use Rattle.virtual_time.specs.Entries.{Entry, Own, entry_key, number}
use Rattle.virtual_time.specs.Machine.{Machine}
use Rattle.virtual_time.specs.Bags.{insert, inputs, remove, times}
use Rattle.virtual_time.specs.Records.{Record, antimessage_comes, back_at, back_by_antimessage, back_by_message, back_until, before_last, later, message_comes, next_of, not_later, roll_back_of, unsent}
use Rattle.task_seed.specs.declared.setup.Setup.{Setup}
use Rattle.task_seed.specs.declared.turns.Turn.{Turn}
use Rattle.task_seed.specs.Machines.{machine}
use Rattle.task_seed.specs.Setups.{system}
use Rattle.task_seed.specs.Turning.{System, key_of}
use Rattle.rollback.specs.Flight.{in_flight, item_of}
use Rattle.rollback.specs.ComponentView.{ComponentView, back_by, comes, machine_of, processed, sent_next}
use Rattle.rollback.specs.Post.{IsPosted}

-- the next entry of component i is this own turn
pub record IsComingTurn (s : System) (i : ℕ) (r : Record (List Datum) Named) (turned : Turned) : Type 0 where
  pub key : Some turned.key ≡ key_of s i (number r.first r.done)
  pub entry : next_of (machine s) i r ≡ Some (Own (rank turned.key) (action_of turned.outcome))

-- of a component whose turns are read by turn_of
module _ {T : Type 0} (turn_of : T → ℕ → ℕ → Option Turn) (c : ComponentView (Setup T)) where
  -- its next entry, if there is one
  abbrev pub next_entry : Option (Entry Named)
  next_entry = next_of (machine_of turn_of c.setup) c.number c.history

  -- its next entry has this key
  abbrev pub HasNextKey : Key → Type 0
  HasNextKey key = IsSomeAnd next_entry (λ entry. entry_key entry ≡ rank key)

  -- its next entry is this own turn
  abbrev pub IsNextTurn : Turned → Type 0
  IsNextTurn = IsComingTurn (system turn_of c.setup) c.number c.history

  -- the component after its next entry
  abbrev pub stepped : ComponentView (Setup T)
  stepped = record c { history = processed next_entry c.history }

  -- a bag gained what its next entry sends
  abbrev pub IsNextSent : List Signed → List Signed → Type 0
  IsNextSent = IsPosted Plus (sent_next (machine_of turn_of c.setup) c.number next_entry)

  -- the machine of its setup
  abbrev pub machine_at : Machine (List Datum) Named
  machine_at = machine_of turn_of c.setup

  -- a bag gained an antimessage of all that these entries of it sent
  abbrev pub IsUnsent : List (Entry Named) → List Signed → List Signed → Type 0
  IsUnsent entries = IsPosted Minus (unsent machine_at c.number entries)

  -- the done entries that the coming of this one takes back
  abbrev pub taken_back : Signed → List (Entry Named)
  taken_back signed = back_by machine_at signed.sign (item_of signed) c.history

  -- the component without an owed antimessage, or a pending input, like this one
  abbrev pub without_owed : Signed → ComponentView (Setup T)
  without_owed signed = record c { history = record c.history { owed = remove machine_at (item_of signed) c.history.owed } }

  abbrev pub without_pending : Signed → ComponentView (Setup T)
  without_pending signed = record c { history = record c.history { pending = remove machine_at (item_of signed) c.history.pending } }

  -- the component with this one pending, or owed
  abbrev pub with_pending : Signed → ComponentView (Setup T)
  with_pending signed = record c { history = record c.history { pending = insert machine_at (item_of signed) c.history.pending } }

  abbrev pub with_owed : Signed → ComponentView (Setup T)
  with_owed signed = record c { history = record c.history { owed = insert machine_at (item_of signed) c.history.owed } }

  -- the done entries that are later than a message, and the component without them
  abbrev pub later_than : Signed → List (Entry Named)
  later_than signed = later machine_at (item_of signed) c.history.done

  abbrev pub back_before : Signed → ComponentView (Setup T)
  back_before signed = record c { history = back_at machine_at (later_than signed) (not_later machine_at (item_of signed) c.history.done) c.history }

  -- the done entries from the last message like this one on, and the component without them
  abbrev pub done_since : Signed → List (Entry Named)
  done_since signed = back_until machine_at (item_of signed) c.history.done

  abbrev pub back_to : Signed → ComponentView (Setup T)
  back_to signed = record c { history = back_at machine_at (done_since signed) (before_last machine_at (item_of signed) c.history.done) c.history }

  -- an input like this one is done
  abbrev pub is_input_done : Signed → Bool
  is_input_done signed = nat_lt 0 (inputs machine_at c.history.done (item_of signed).key (item_of signed).action)

  -- the component after its last entry was taken back, where it has one
  abbrev pub rolled_back : ComponentView (Setup T)
  rolled_back = record c { history = roll_back_of machine_at c.history }

  -- of a message, and of an antimessage
  abbrev pub taken_back_by_message : Signed → List (Entry Named)
  taken_back_by_message signed = back_by_message machine_at (item_of signed) c.history

  abbrev pub taken_back_by_antimessage : Signed → List (Entry Named)
  taken_back_by_antimessage signed = back_by_antimessage machine_at (item_of signed) c.history

  -- the component after a message came, and after an antimessage
  abbrev pub with_message : Signed → ComponentView (Setup T)
  with_message signed = record c { history = message_comes machine_at (item_of signed) c.history }

  abbrev pub with_antimessage : Signed → ComponentView (Setup T)
  with_antimessage signed = record c { history = antimessage_comes machine_at (item_of signed) c.history }

  -- the component after this one came
  abbrev pub with_coming : Signed → ComponentView (Setup T)
  with_coming signed = record c { history = comes machine_at signed.sign (item_of signed) c.history }

  -- of each message a bag gained as many as antimessages
  abbrev pub GainsEvenly : List Signed → List Signed → Type 0
  GainsEvenly old new =
      (j k : ℕ) (action : Named)
      → times machine_at (in_flight Plus j new) k action + times machine_at (in_flight Minus j old) k action
      ≡ times machine_at (in_flight Minus j new) k action + times machine_at (in_flight Plus j old) k action
