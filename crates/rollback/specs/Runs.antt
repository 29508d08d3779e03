-- Several entries processed one after the other, what they posted, and what came of taking them back.
use Rattle.std.specs.Prelude.{◌≡◌, ◌≢◌, ℕ, List, Option, None, Some, length}
use Rattle.terms.specs.Named.{Named}
use Rattle.event_keys.specs.declared.message.Sign.TheVariants.{Plus, Minus}
use Rattle.event_keys.specs.declared.message.Signed.{Signed}
use Rattle.virtual_time.specs.Machine.{Machine}
use Rattle.virtual_time.specs.Entries.{Entry}
use Rattle.virtual_time.specs.Records.{Record, Processes, next_of, sent_all, unsent}
use Rattle.rollback.specs.declared.refused.ProcessRefused.{ProcessRefused}
use Rattle.rollback.specs.declared.refused.ProcessRefused.TheVariants.{NoMemory, NothingPending}
use Rattle.rollback.specs.Flight.{in_flight}
use Rattle.rollback.specs.Post.{IsPosted}

module _ {S : Type 0} (m : Machine S Named) (i : ℕ) where
  -- as many entries were done one after the other, and their messages are in the bag
  pub record IsRun (old new : Record S Named) (old_bag new_bag : List Signed) (count : ℕ) : Type 0 where
    pub entries : List (Entry Named)
    pub processes : Processes m i old entries new
    pub many : length entries ≡ count
    pub sent : IsPosted Plus (sent_all m i entries) old_bag new_bag

  -- why no more entries were done: as many as were asked for, or nothing is next, or memory was refused for what is next
  abbrev pub IsEnd : Record S Named → ℕ → ℕ → Option ProcessRefused → Type 0
  IsEnd r count most None = count ≡ most
  IsEnd r count most (Some NothingPending) = next_of m i r ≡ None
  IsEnd r count most (Some NoMemory) = next_of m i r ≢ None

  -- as many entries were done one after the other and taken back: their messages and their antimessages are in the bag
  pub record IsTrip (old : Record S Named) (old_bag new_bag : List Signed) (count most : ℕ) (stopped : Option ProcessRefused) : Type 0 where
    pub turning : Record S Named
    pub entries : List (Entry Named)
    pub processes : Processes m i old entries turning
    pub many : length entries ≡ count
    pub end : IsEnd turning count most stopped
    pub sent : (j : ℕ) → in_flight Plus j new_bag ≡ sent_all m i entries j (in_flight Plus j old_bag)
    pub unsent : (j : ℕ) → in_flight Minus j new_bag ≡ unsent m i entries j (in_flight Minus j old_bag)
