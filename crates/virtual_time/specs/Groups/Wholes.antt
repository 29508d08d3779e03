-- The whole world that the exchange and the leases of all groups stand for.
use Rattle.std.specs.Prelude.{◌≡◌, ℕ, ◌+◌, ◌==◌, cond}
use Rattle.virtual_time.specs.Groups.Leases.{Lease}
use Rattle.virtual_time.specs.Groups.Stubs.{Exchange}
use Rattle.virtual_time.specs.Machine.{Machine}
use Rattle.virtual_time.specs.Entries.{below, from, number, replay}
use Rattle.virtual_time.specs.Reference.{reference_below}
use Rattle.virtual_time.specs.Worlds.{Part, World}
use Rattle.virtual_time.specs.Bags.{times}

-- Component j's part, in its group's lease.
abbrev pub part_in : {S A : Type 0} → (ℕ → ℕ) → (ℕ → Lease S A) → ℕ → Part S A
part_in group ls j = (ls (group j)).part j

-- The whole world of an exchange and one lease a group: the records are those of the leases cut at the bound, and what is in flight is
-- in inboxes, in the leases, and in outgoing bags.
pub record IsWholeWorld {S A : Type 0} (machine : Machine S A) (group : ℕ → ℕ) (e : Exchange A) (ls : ℕ → Lease S A) (w : World S A) : Type 0 where
  pub bound : w.bound ≡ e.bound
  pub committed : w.committed ≡ reference_below machine e.bound
  pub base : (j : ℕ) → (w.part j).base ≡ replay machine j (part_in group ls j).base (below e.bound (part_in group ls j).done)
  pub first : (j : ℕ) → (w.part j).first ≡ number (part_in group ls j).first (below e.bound (part_in group ls j).done)
  pub done : (j : ℕ) → (w.part j).done ≡ from e.bound (part_in group ls j).done
  pub pending : (j : ℕ) → (w.part j).pending ≡ (part_in group ls j).pending
  pub owed : (j : ℕ) → (w.part j).owed ≡ (part_in group ls j).owed
  pub plus : (j k : ℕ) (a : A) → times machine (w.part j).plus k a
      ≡ times machine (part_in group ls j).plus k a + times machine (e.plus j) k a + times machine ((ls (group (machine.owner k))).out_plus j) k a
  pub minus : (j k : ℕ) (a : A) → times machine (w.part j).minus k a
      ≡ times machine (part_in group ls j).minus k a + times machine (e.minus j) k a + times machine ((ls (group (machine.owner k))).out_minus j) k a

-- The leases where group g has this one.
abbrev pub put_lease : {S A : Type 0} → ℕ → Lease S A → (ℕ → Lease S A) → ℕ → Lease S A
put_lease g l ls h = cond (h == g) l (ls h)
