-- What the exchange of groups does: a meeting with a lease, a commit, a chunk.
use Rattle.std.specs.Prelude.{◌≡◌, ℕ, ◌+◌, ◌<◌, ◌≤◌, ◌==◌, ◌&&◌, ◌⊎◌, cond, nat_le, List, [], length}
use Rattle.virtual_time.specs.Groups.Leases.{IsFloor, Lease, Matches}
use Rattle.virtual_time.specs.Groups.Stubs.{Exchange}
use Rattle.virtual_time.specs.Exchange.Meetings.{turns_below, turns_from}
use Rattle.virtual_time.specs.Entries.{Item, below, from, number, replay, turn_at}
use Rattle.virtual_time.specs.Machine.{Machine}
use Rattle.virtual_time.specs.Bags.{AllFrom, times}
use Rattle.virtual_time.specs.Reference.{Turn, Falls, outcome_at}
use Rattle.virtual_time.specs.Inverses.{Pair, times_to}

-- An accepted meeting of group g.
pub record Met {S A : Type 0} (machine : Machine S A) (group : ℕ → ℕ) (g : ℕ) (e : Exchange A) (l : Lease S A) (e' : Exchange A) (l' : Lease S A) : Type 0 where
  -- the inboxes with the outgoing bag, equal pairs gone
  pub p : ℕ → List (Item A)
  pub m : ℕ → List (Item A)
  pub gone : List (Pair A)
  pub by_plus : (j k : ℕ) (a : A) → times machine (p j) k a + times_to machine gone j k a ≡ times machine (e.plus j) k a + times machine (l.out_plus j) k a
  pub by_minus : (j k : ℕ) (a : A) → times machine (m j) k a + times_to machine gone j k a ≡ times machine (e.minus j) k a + times machine (l.out_minus j) k a
  -- all equal pairs are gone
  pub apart : (j k : ℕ) (a : A) → (times machine (p j) k a ≡ 0) ⊎ (times machine (m j) k a ≡ 0)
  pub p_low : (j : ℕ) → AllFrom e.bound (p j)
  pub m_low : (j : ℕ) → AllFrom e.bound (m j)
  -- the other groups
  pub others : (h : ℕ) → (h ≡ g → ⊥) → e'.stub h ≡ e.stub h
  pub others_plus : (j : ℕ) → (group j ≡ g → ⊥) → e'.plus j ≡ p j
  pub others_minus : (j : ℕ) → (group j ≡ g → ⊥) → e'.minus j ≡ m j
  pub bound : e'.bound ≡ e.bound
  pub given : e'.given ≡ e.given
  -- the lease
  pub base : l'.base ≡ e.bound
  pub first : (i : ℕ) → group i ≡ g → (l'.part i).first ≡ number (l.part i).first (below e.bound (l.part i).done)
  pub state : (i : ℕ) → group i ≡ g → (l'.part i).base ≡ replay machine i (l.part i).base (below e.bound (l.part i).done)
  pub done : (i : ℕ) → group i ≡ g → (l'.part i).done ≡ from e.bound (l.part i).done
  pub pending : (i : ℕ) → group i ≡ g → (l'.part i).pending ≡ (l.part i).pending
  pub owed : (i : ℕ) → group i ≡ g → (l'.part i).owed ≡ (l.part i).owed
  pub tray_plus : (i k : ℕ) (a : A) → group i ≡ g → times machine (l'.part i).plus k a ≡ times machine (l.part i).plus k a + times machine (p i) k a
  pub tray_minus : (i k : ℕ) (a : A) → group i ≡ g → times machine (l'.part i).minus k a ≡ times machine (l.part i).minus k a + times machine (m i) k a
  pub tray_low : (i : ℕ) → group i ≡ g → AllFrom e.bound (l'.part i).plus
  pub tray_low_minus : (i : ℕ) → group i ≡ g → AllFrom e.bound (l'.part i).minus
  pub out_plus : (j : ℕ) → l'.out_plus j ≡ []
  pub out_minus : (j : ℕ) → l'.out_minus j ≡ []
  -- its stub and its inboxes
  pub floor : IsFloor machine group g l'.floor l'.part
  pub matches : Matches machine group g (e'.stub g) l'
  pub inbox_plus : (i : ℕ) → group i ≡ g → e'.plus i ≡ []
  pub inbox_minus : (i : ℕ) → group i ≡ g → e'.minus i ≡ []
  -- the turns taken in
  pub falls : Falls e'.held
  pub turns : (k : ℕ) → outcome_at k e'.held
      ≡ cond (nat_le (e.stub g).base k && (group (machine.owner k) == g)) (turn_at k (below e.bound (l.part (machine.owner k)).done)) (outcome_at k e.held)

-- No floor and no inbox key is below b.
pub record IsClear {S A : Type 0} (machine : Machine S A) (e : Exchange A) (b : ℕ) : Type 0 where
  pub end : b ≤ machine.top
  pub floor : (g : ℕ) → b ≤ (e.stub g).floor
  pub plus : (j : ℕ) → AllFrom b (e.plus j)
  pub minus : (j : ℕ) → AllFrom b (e.minus j)

-- A commit: the bound is the greatest that is clear, and nothing else changes.
pub record IsCommit {S A : Type 0} (machine : Machine S A) (e : Exchange A) (e' : Exchange A) : Type 0 where
  pub clear : IsClear machine e e'.bound
  pub most : (b : ℕ) → IsClear machine e b → b ≤ e'.bound
  pub rest : e' ≡ record { stub = e.stub; plus = e.plus; minus = e.minus; bound = e'.bound; held = e.held; given = e.given }

-- A chunk: b is the least base of a group with one of the first count components, or the end where there are none; the turns held
-- below it are given, and the others stay.
pub record IsChunk {S A : Type 0} (machine : Machine S A) (group : ℕ → ℕ) (count : ℕ) (e : Exchange A) (b : ℕ) (e' : Exchange A) (chunk : List (Turn A)) : Type 0 where
  pub end : b ≤ machine.top
  pub low : (j : ℕ) → j < count → b ≤ (e.stub (group j)).base
  pub most : (c : ℕ) → c ≤ machine.top → ((j : ℕ) → j < count → c ≤ (e.stub (group j)).base) → c ≤ b
  pub turns : chunk ≡ turns_below b e.held
  pub rest : e' ≡ record { stub = e.stub; plus = e.plus; minus = e.minus; bound = e.bound; held = turns_from b e.held; given = e.given + length chunk }
