-- What comes next: the first pending input, or the own turn.
use Rattle.std.specs.Prelude.{ℕ, Bool, true, false, cond, nat_lt, Option, None, Some}
use Rattle.terms.specs.Named.{Named}
use Rattle.event_keys.specs.declared.key.Key.{Key}
use Rattle.event_keys.specs.declared.message.Signed.{Signed}
use Rattle.event_keys.specs.Ranks.{rank}
use Rattle.virtual_time.specs.Machine.{Machine}
use Rattle.virtual_time.specs.Entries.{Entry, Own, Input, number, replay}
use Rattle.virtual_time.specs.Records.{Record}
use Rattle.rollback.specs.Flight.{item_of}

-- a pending input is before the own turn
abbrev pub is_before_own : Option Signed → Option Key → Bool
is_before_own None own = false
is_before_own (Some x) None = true
is_before_own (Some x) (Some key) = nat_lt (rank x.message.key) (rank key)

abbrev pub received : Option Signed → Option (Entry Named)
received None = None
received (Some x) = Some (Input (item_of x))

module _ {S : Type 0} where
  -- the own turn with what comes of it
  abbrev pub turning : Machine S Named → ℕ → Record S Named → Option Key → Option (Entry Named)
  turning m i r None = None
  turning m i r (Some key) = Some (Own (rank key) (m.outcome i (number r.first r.done) (replay m i r.base r.done)))

  -- the entry that comes next, from the first pending input and the key of the own turn
  abbrev pub coming_of : Machine S Named → ℕ → Record S Named → Option Signed → Option Key → Option (Entry Named)
  coming_of m i r first own = cond (is_before_own first own) (received first) (turning m i r own)
