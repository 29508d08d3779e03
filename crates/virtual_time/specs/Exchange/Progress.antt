-- Where every lease has met the exchange and its bound was raised, who can go on.
use Rattle.std.specs.Prelude.{◌≡◌, ℕ, ◌<◌, ◌≤◌, ◌⊎◌, Option, Some, []}
use Rattle.virtual_time.specs.Machine.{Machine}
use Rattle.virtual_time.specs.Entries.{Input, Item, Own, from}
use Rattle.virtual_time.specs.Records.{next_of}
use Rattle.virtual_time.specs.Worlds.{Part, record_of}
use Rattle.virtual_time.specs.Replies.{HasKey}
use Rattle.virtual_time.specs.Exchange.Stubs.{Exchange}
use Rattle.virtual_time.specs.Exchange.Leases.{IsFloor, IsLease, Lease}

-- Each of the first count leases has met the exchange and is as it was then: its stub's floor is
-- the least of what it has to do. No inbox has anything, and beyond these leases no floor is below
-- the end.
pub record HaveAllMet {S A : Type 0} (machine : Machine S A) (count : ℕ) (exchange : Exchange A)
    (leases : ℕ → Lease S A) : Type 0 where
  pub lease : (j : ℕ) → j < count → IsLease machine j (leases j)
  pub floor : (j : ℕ) → j < count → IsFloor machine j (exchange.stub j).floor (leases j).part
  pub beyond : (j : ℕ) → count ≤ j → machine.top ≤ (exchange.stub j).floor
  pub plus : (j : ℕ) → (exchange.stub j).plus ≡ []
  pub minus : (j : ℕ) → (exchange.stub j).minus ≡ []

-- The next entry is a pending input with the key g. An input needs no room in a window.
pub record HasNextInput {S A : Type 0} (machine : Machine S A) (i g : ℕ)
    (part : Part S A) : Type 0 where
  pub input : Item A
  pub next : next_of machine i (record_of part) ≡ Some (Input input)
  pub key : input.key ≡ g

-- The next entry is the own turn with the key g, and nothing at or above g is done.
pub record HasNextTurn {S A : Type 0} (machine : Machine S A) (i g : ℕ)
    (part : Part S A) : Type 0 where
  pub outcome : Option A
  pub next : next_of machine i (record_of part) ≡ Some (Own g outcome)
  pub nothing : from g part.done ≡ []

-- Component i can go on at the key g: a message or an antimessage with this key waits in its tray,
-- or its next entry has this key, and is an input, or an own turn while nothing at or above g is
-- done.
abbrev pub CanGoOn : {S A : Type 0} → Machine S A → ℕ → ℕ → Part S A → Type 0
CanGoOn machine i g part =
    (HasKey g part.plus ⊎ HasKey g part.minus)
    ⊎ (HasNextInput machine i g part ⊎ HasNextTurn machine i g part)
