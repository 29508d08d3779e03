-- What others know of a component by the messages that it took and the messages that it sent.
use Rattle.std.specs.Prelude.{◌≡◌, ℕ, ◌+◌, List}
use Rattle.terms.specs.Named.{Named}
use Rattle.event_keys.specs.declared.message.Sign.TheVariants.{Plus, Minus}
use Rattle.event_keys.specs.declared.message.Signed.{Signed}
use Rattle.virtual_time.specs.Bags.{inputs, sends, times}
use Rattle.virtual_time.specs.Machine.{Machine}
use Rattle.virtual_time.specs.Records.{Record}
use Rattle.rollback.specs.Flight.{in_flight}

module _ {S : Type 0} (m : Machine S Named) (i : ℕ) (r : Record S Named) where
  -- component i has taken these messages, where those in the tray are not delivered yet
  abbrev pub IsTaken : List Signed → List Signed → Type 0
  IsTaken taken tray = (k : ℕ) (a : Named) → times m (in_flight Plus i taken) k a + times m r.owed k a + times m (in_flight Minus i tray) k a ≡ inputs m r.done k a + times m r.pending k a + times m (in_flight Plus i tray) k a

  -- it has sent these messages and not taken them back, where its signed messages in `out` have not left yet
  abbrev pub IsStanding : List Signed → List Signed → Type 0
  IsStanding standing out = (k : ℕ) (a : Named) (j : ℕ) → m.owner k ≡ i → times m (in_flight Plus j standing) k a + times m (in_flight Plus j out) k a ≡ sends m r.done k a j + times m (in_flight Minus j out) k a
