-- What a meeting moves, told by counts.
use Rattle.std.specs.Prelude.{◌≡◌, ℕ, ◌+◌, ◌-◌, cond, nat_lt, List, []}
use Rattle.std.specs.Option.{option_or}
use Rattle.virtual_time.specs.Machine.{Machine}
use Rattle.virtual_time.specs.Reference.{Falls, outcome_at}
use Rattle.virtual_time.specs.Entries.{Item, below, from, number, replay}
use Rattle.virtual_time.specs.Bags.{times}
use Rattle.virtual_time.specs.Records.{turns_among}
use Rattle.virtual_time.specs.Exchange.Stubs.{Exchange}
use Rattle.virtual_time.specs.Exchange.Leases.{IsFloor, Lease}

-- What a meeting of component i moves, message by message, and what it leaves.
pub record IsMoved {S A : Type 0} (machine : Machine S A) (i : ℕ) (e : Exchange A) (l : Lease S A) (e' : Exchange A) (l' : Lease S A) : Type 0 where
  -- the inboxes with what came out of the lease's bag: of a message and its antimessage only one is left
  pub p : ℕ → List (Item A)
  pub m : ℕ → List (Item A)
  pub messages : (j k : ℕ) (a : A) → times machine (p j) k a ≡ (times machine (e.stub j).plus k a + times machine (l.out_plus j) k a) - (times machine (e.stub j).minus k a + times machine (l.out_minus j) k a)
  pub antimessages : (j k : ℕ) (a : A) → times machine (m j) k a ≡ (times machine (e.stub j).minus k a + times machine (l.out_minus j) k a) - (times machine (e.stub j).plus k a + times machine (l.out_plus j) k a)
  -- the stubs of the others
  pub others : (j : ℕ) → (j ≡ i → ⊥)
      → e'.stub j ≡ record { base = (e.stub j).base; floor = (e.stub j).floor; taken = (e.stub j).taken; standing = (e.stub j).standing; plus = p j; minus = m j }
  -- its own stub
  pub stub_base : (e'.stub i).base ≡ e.bound
  pub stub_floor : (e'.stub i).floor ≡ l'.floor
  pub taken : (k : ℕ) (a : A) → (e'.stub i).taken k a ≡ cond (nat_lt k e.bound) 0 (((e.stub i).taken k a + times machine (p i) k a) - times machine (m i) k a)
  pub standing : (k : ℕ) (a : A) (j : ℕ) → (e'.stub i).standing k a j ≡ cond (nat_lt k e.bound) 0 (((e.stub i).standing k a j + times machine (l.out_plus j) k a) - times machine (l.out_minus j) k a)
  pub inbox_plus : (e'.stub i).plus ≡ []
  pub inbox_minus : (e'.stub i).minus ≡ []
  pub bound : e'.bound ≡ e.bound
  pub given : e'.given ≡ e.given
  -- the lease
  pub base : l'.base ≡ e.bound
  pub first : l'.part.first ≡ number l.part.first (below e.bound l.part.done)
  pub state : l'.part.base ≡ replay machine i l.part.base (below e.bound l.part.done)
  pub done : l'.part.done ≡ from e.bound l.part.done
  pub pending : l'.part.pending ≡ l.part.pending
  pub owed : l'.part.owed ≡ l.part.owed
  pub tray_plus : (k : ℕ) (a : A) → times machine l'.part.plus k a ≡ times machine l.part.plus k a + times machine (p i) k a
  pub tray_minus : (k : ℕ) (a : A) → times machine l'.part.minus k a ≡ times machine l.part.minus k a + times machine (m i) k a
  pub out_plus : (j : ℕ) → l'.out_plus j ≡ []
  pub out_minus : (j : ℕ) → l'.out_minus j ≡ []
  pub floor : IsFloor machine i l'.floor l'.part
  -- the turns taken in
  pub falls : Falls e'.held
  pub turns : (k : ℕ) → outcome_at k e'.held ≡ option_or (outcome_at k (turns_among (below e.bound l.part.done))) (outcome_at k e.held)
