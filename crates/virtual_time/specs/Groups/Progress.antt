-- Where the lease of every group has met the exchange and its bound was raised.
use Rattle.std.specs.Prelude.{◌≡◌, ℕ, ◌<◌, ◌≤◌, []}
use Rattle.virtual_time.specs.Machine.{Machine}
use Rattle.virtual_time.specs.Groups.Stubs.{Exchange}
use Rattle.virtual_time.specs.Groups.Leases.{IsFloor, IsLease, Lease}
use Rattle.virtual_time.specs.Groups.Windows.{AreAmong}

-- Each of the first groups has some of the first count components; its lease has met the exchange and is as it was then: its stub's
-- floor is the least of what it has to do. No inbox has anything, and beyond these groups no floor is below the end.
pub record HaveAllMet {S A : Type 0} (machine : Machine S A) (group : ℕ → ℕ) (groups count : ℕ) (e : Exchange A) (ls : ℕ → Lease S A) : Type 0 where
  pub among : (g : ℕ) → g < groups → AreAmong group count g
  pub lease : (g : ℕ) → g < groups → IsLease machine group g (ls g)
  pub floor : (g : ℕ) → g < groups → IsFloor machine group g (e.stub g).floor (ls g).part
  pub beyond : (g : ℕ) → groups ≤ g → machine.top ≤ (e.stub g).floor
  pub plus : (j : ℕ) → e.plus j ≡ []
  pub minus : (j : ℕ) → e.minus j ≡ []
