-- What a component gives up below a bound.
use Rattle.std.specs.Prelude.{ℕ, ◌+◌, Bool, cond, nat_lt, List, [], ◌∷◌, Option, None, Some}
use Rattle.event_keys.specs.declared.key.Key.{Key}
use Rattle.event_keys.specs.declared.outcome.Turned.{Turned}
use Rattle.virtual_time.specs.Entries.{entry_key}
use Rattle.message_balance.specs.declared.done.Done.{Done}
use Rattle.message_balance.specs.declared.done.Done.TheVariants.{Turn, Input}
use Rattle.rollback.specs.ComponentInvariant.{entry_of}

-- the done entry is below a bound
abbrev pub is_done_below : ℕ → Done → Bool
is_done_below c done = nat_lt (entry_key (entry_of done)) c

-- the entries from the newest below a bound on
abbrev pub dones_below : ℕ → List Done → List Done
dones_below c [] = []
dones_below c (d ∷ ds) = cond (is_done_below c d) (d ∷ ds) (dones_below c ds)

-- the newest entries, which are not below a bound
abbrev pub dones_from : ℕ → List Done → List Done
dones_from c [] = []
dones_from c (d ∷ ds) = cond (is_done_below c d) [] (d ∷ dones_from c ds)

-- the oldest entry, where it is below a bound
abbrev pub oldest_below : ℕ → List Done → Option Done
oldest_below c [] = None
oldest_below c (d ∷ []) = cond (is_done_below c d) (Some d) None
oldest_below c (d ∷ e ∷ ds) = oldest_below c (e ∷ ds)

-- all entries but the oldest, where that one is below a bound
abbrev pub without_oldest_below : ℕ → List Done → List Done
without_oldest_below c [] = []
without_oldest_below c (d ∷ []) = cond (is_done_below c d) [] (d ∷ [])
without_oldest_below c (d ∷ e ∷ ds) = d ∷ without_oldest_below c (e ∷ ds)

abbrev pub turn_in : Done → List Turned → List Turned
turn_in (Turn turned antimessages) ts = turned ∷ ts
turn_in (Input signed) ts = ts

-- the own turns among entries
abbrev pub turns_in : List Done → List Turned
turns_in [] = []
turns_in (d ∷ ds) = turn_in d (turns_in ds)

abbrev pub key_in : Done → Option Key → Option Key
key_in (Turn turned antimessages) key = Some turned.key
key_in (Input signed) key = key

-- the key of the newest own turn among entries
abbrev pub newest_key : List Done → Option Key
newest_key [] = None
newest_key (d ∷ ds) = key_in d (newest_key ds)

-- the number of the turn after the one of this key, or n where there is none
abbrev pub number_after : Option Key → ℕ → ℕ
number_after None n = n
number_after (Some key) n = key.number + 1
