-- What a meeting of a group moves, told by counts.
use Rattle.std.specs.Prelude.{◌≡◌, ℕ, ◌+◌, ◌-◌, ◌==◌, cond, nat_lt, List, []}
use Rattle.std.specs.Option.{option_or}
use Rattle.virtual_time.specs.Machine.{Machine}
use Rattle.virtual_time.specs.Reference.{Falls, outcome_at}
use Rattle.virtual_time.specs.Entries.{Item, below, from, number, replay}
use Rattle.virtual_time.specs.Bags.{times}
use Rattle.virtual_time.specs.Records.{turns_among}
use Rattle.virtual_time.specs.Groups.Stubs.{Exchange}
use Rattle.virtual_time.specs.Groups.Leases.{IsFloor, Lease}

-- What a meeting of group g moves, message by message, and what it leaves.
pub record IsMoved {S A : Type 0} (machine : Machine S A) (group : ℕ → ℕ) (g : ℕ) (e : Exchange A) (l : Lease S A) (e' : Exchange A) (l' : Lease S A) : Type 0 where
  -- the inboxes with what came out of the lease's bag: of a message and its antimessage only one is left
  pub p : ℕ → List (Item A)
  pub m : ℕ → List (Item A)
  pub messages : (j k : ℕ) (a : A) → times machine (p j) k a ≡ (times machine (e.plus j) k a + times machine (l.out_plus j) k a) - (times machine (e.minus j) k a + times machine (l.out_minus j) k a)
  pub antimessages : (j k : ℕ) (a : A) → times machine (m j) k a ≡ (times machine (e.minus j) k a + times machine (l.out_minus j) k a) - (times machine (e.plus j) k a + times machine (l.out_plus j) k a)
  -- the other groups
  pub others : (h : ℕ) → (h ≡ g → ⊥) → e'.stub h ≡ e.stub h
  pub others_plus : (j : ℕ) → (group j ≡ g → ⊥) → e'.plus j ≡ p j
  pub others_minus : (j : ℕ) → (group j ≡ g → ⊥) → e'.minus j ≡ m j
  -- its own stub and inboxes
  pub stub_base : (e'.stub g).base ≡ e.bound
  pub stub_floor : (e'.stub g).floor ≡ l'.floor
  pub taken : (i k : ℕ) (a : A) → group i ≡ g → (e'.stub g).taken i k a ≡ cond (nat_lt k e.bound) 0 (((e.stub g).taken i k a + times machine (p i) k a) - times machine (m i) k a)
  pub standing : (k : ℕ) (a : A) (j : ℕ) → group (machine.owner k) ≡ g
      → (e'.stub g).standing k a j ≡ cond (nat_lt k e.bound) 0 (((e.stub g).standing k a j + times machine (l.out_plus j) k a) - times machine (l.out_minus j) k a)
  pub inbox_plus : (i : ℕ) → group i ≡ g → e'.plus i ≡ []
  pub inbox_minus : (i : ℕ) → group i ≡ g → e'.minus i ≡ []
  pub bound : e'.bound ≡ e.bound
  pub given : e'.given ≡ e.given
  -- the lease
  pub base : l'.base ≡ e.bound
  pub first : (i : ℕ) → group i ≡ g → (l'.part i).first ≡ number (l.part i).first (below e.bound (l.part i).done)
  pub state : (i : ℕ) → group i ≡ g → (l'.part i).base ≡ replay machine i (l.part i).base (below e.bound (l.part i).done)
  pub done : (i : ℕ) → group i ≡ g → (l'.part i).done ≡ from e.bound (l.part i).done
  pub pending : (i : ℕ) → group i ≡ g → (l'.part i).pending ≡ (l.part i).pending
  pub owed : (i : ℕ) → group i ≡ g → (l'.part i).owed ≡ (l.part i).owed
  pub tray_plus : (i k : ℕ) (a : A) → group i ≡ g → times machine (l'.part i).plus k a ≡ times machine (l.part i).plus k a + times machine (p i) k a
  pub tray_minus : (i k : ℕ) (a : A) → group i ≡ g → times machine (l'.part i).minus k a ≡ times machine (l.part i).minus k a + times machine (m i) k a
  pub out_plus : (j : ℕ) → l'.out_plus j ≡ []
  pub out_minus : (j : ℕ) → l'.out_minus j ≡ []
  pub floor : IsFloor machine group g l'.floor l'.part
  -- the turns taken in
  pub falls : Falls e'.held
  pub turns : (k : ℕ) → outcome_at k e'.held
      ≡ cond (group (machine.owner k) == g) (option_or (outcome_at k (turns_among (below e.bound (l.part (machine.owner k)).done))) (outcome_at k e.held)) (outcome_at k e.held)
