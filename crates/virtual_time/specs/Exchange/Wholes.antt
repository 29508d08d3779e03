-- The whole world that the exchange and the leases stand for.
use Rattle.std.specs.Prelude.{◌≡◌, ℕ, ◌+◌, ◌==◌, cond}
use Rattle.virtual_time.specs.Exchange.Leases.{Lease}
use Rattle.virtual_time.specs.Machine.{Machine}
use Rattle.virtual_time.specs.Entries.{below, from, number, replay}
use Rattle.virtual_time.specs.Exchange.Stubs.{Exchange}
use Rattle.virtual_time.specs.Reference.{reference_below}
use Rattle.virtual_time.specs.Worlds.{World}
use Rattle.virtual_time.specs.Bags.{times}

-- The whole world of an exchange and one lease a component: the records are those of the leases cut at the bound, and what is in
-- flight is in inboxes, trays and outgoing bags.
pub record IsWholeWorld {S A : Type 0} (machine : Machine S A) (e : Exchange A) (ls : ℕ → Lease S A) (w : World S A) : Type 0 where
  pub bound : w.bound ≡ e.bound
  pub committed : w.committed ≡ reference_below machine e.bound
  pub base : (j : ℕ) → (w.part j).base ≡ replay machine j (ls j).part.base (below e.bound (ls j).part.done)
  pub first : (j : ℕ) → (w.part j).first ≡ number (ls j).part.first (below e.bound (ls j).part.done)
  pub done : (j : ℕ) → (w.part j).done ≡ from e.bound (ls j).part.done
  pub pending : (j : ℕ) → (w.part j).pending ≡ (ls j).part.pending
  pub owed : (j : ℕ) → (w.part j).owed ≡ (ls j).part.owed
  pub plus : (j k : ℕ) (a : A) → times machine (w.part j).plus k a ≡ times machine (ls j).part.plus k a + times machine (e.stub j).plus k a + times machine ((ls (machine.owner k)).out_plus j) k a
  pub minus : (j k : ℕ) (a : A) → times machine (w.part j).minus k a ≡ times machine (ls j).part.minus k a + times machine (e.stub j).minus k a + times machine ((ls (machine.owner k)).out_minus j) k a

-- The leases where component i has this one.
abbrev pub put_lease : {S A : Type 0} → ℕ → Lease S A → (ℕ → Lease S A) → ℕ → Lease S A
put_lease i l ls j = cond (j == i) l (ls j)
