-- What the exchange does: a meeting with a lease, a commit, a chunk.
use Rattle.std.specs.Prelude.{◌≡◌, ℕ, ◌+◌, ◌<◌, ◌≤◌, ◌==◌, ◌&&◌, ◌⊎◌, cond, nat_lt, nat_le, List, [], ◌∷◌, length}
use Rattle.virtual_time.specs.Exchange.Leases.{IsFloor, Lease, Matches}
use Rattle.virtual_time.specs.Entries.{Item, below, from, number, replay, turn_at}
use Rattle.virtual_time.specs.Machine.{Machine}
use Rattle.virtual_time.specs.Exchange.Stubs.{Exchange}
use Rattle.virtual_time.specs.Bags.{AllFrom, times}
use Rattle.virtual_time.specs.Reference.{Turn, Falls, outcome_at}
use Rattle.virtual_time.specs.Inverses.{Pair, times_to}

-- An accepted meeting of component i.
pub record Met {S A : Type 0} (machine : Machine S A) (i : ℕ) (e : Exchange A) (l : Lease S A) (e' : Exchange A) (l' : Lease S A) : Type 0 where
  -- the inboxes with the outgoing bag, equal pairs gone
  pub p : ℕ → List (Item A)
  pub m : ℕ → List (Item A)
  pub gone : List (Pair A)
  pub by_plus : (j k : ℕ) (a : A) → times machine (p j) k a + times_to machine gone j k a ≡ times machine (e.stub j).plus k a + times machine (l.out_plus j) k a
  pub by_minus : (j k : ℕ) (a : A) → times machine (m j) k a + times_to machine gone j k a ≡ times machine (e.stub j).minus k a + times machine (l.out_minus j) k a
  -- all equal pairs are gone
  pub apart : (j k : ℕ) (a : A) → (times machine (p j) k a ≡ 0) ⊎ (times machine (m j) k a ≡ 0)
  pub p_low : (j : ℕ) → AllFrom e.bound (p j)
  pub m_low : (j : ℕ) → AllFrom e.bound (m j)
  -- the stubs of the others
  pub others : (j : ℕ) → (j ≡ i → ⊥)
      → e'.stub j ≡ record { base = (e.stub j).base; floor = (e.stub j).floor; taken = (e.stub j).taken; standing = (e.stub j).standing; plus = p j; minus = m j }
  pub bound : e'.bound ≡ e.bound
  pub given : e'.given ≡ e.given
  -- the lease
  pub base : l'.base ≡ e.bound
  pub first : l'.part.first ≡ number l.part.first (below e.bound l.part.done)
  pub state : l'.part.base ≡ replay machine i l.part.base (below e.bound l.part.done)
  pub done : l'.part.done ≡ from e.bound l.part.done
  pub pending : l'.part.pending ≡ l.part.pending
  pub owed : l'.part.owed ≡ l.part.owed
  pub tray_plus : (k : ℕ) (a : A) → times machine l'.part.plus k a ≡ times machine l.part.plus k a + times machine (p i) k a
  pub tray_minus : (k : ℕ) (a : A) → times machine l'.part.minus k a ≡ times machine l.part.minus k a + times machine (m i) k a
  pub tray_low : AllFrom e.bound l'.part.plus
  pub tray_low_minus : AllFrom e.bound l'.part.minus
  pub out_plus : (j : ℕ) → l'.out_plus j ≡ []
  pub out_minus : (j : ℕ) → l'.out_minus j ≡ []
  -- its stub
  pub floor : IsFloor machine i l'.floor l'.part
  pub matches : Matches machine i (e'.stub i) l'
  pub inbox_plus : (e'.stub i).plus ≡ []
  pub inbox_minus : (e'.stub i).minus ≡ []
  -- the turns taken in
  pub falls : Falls e'.held
  pub turns : (k : ℕ) → outcome_at k e'.held ≡ cond (nat_le (e.stub i).base k && (machine.owner k == i)) (turn_at k (below e.bound l.part.done)) (outcome_at k e.held)

-- No floor and no inbox key is below b.
pub record IsClear {S A : Type 0} (machine : Machine S A) (e : Exchange A) (b : ℕ) : Type 0 where
  pub end : b ≤ machine.top
  pub floor : (j : ℕ) → b ≤ (e.stub j).floor
  pub plus : (j : ℕ) → AllFrom b (e.stub j).plus
  pub minus : (j : ℕ) → AllFrom b (e.stub j).minus

-- A commit: the bound is the greatest that is clear, and nothing else changes.
pub record IsCommit {S A : Type 0} (machine : Machine S A) (e : Exchange A) (e' : Exchange A) : Type 0 where
  pub clear : IsClear machine e e'.bound
  pub most : (b : ℕ) → IsClear machine e b → b ≤ e'.bound
  pub rest : e' ≡ record { stub = e.stub; bound = e'.bound; held = e.held; given = e.given }

-- The turns held with keys below b.
abbrev pub turns_below : {A : Type 0} → ℕ → List (Turn A) → List (Turn A)
turns_below b [] = []
turns_below b (t ∷ ts) = cond (nat_lt t.key b) (t ∷ ts) (turns_below b ts)

-- The turns held with keys from b on.
abbrev pub turns_from : {A : Type 0} → ℕ → List (Turn A) → List (Turn A)
turns_from b [] = []
turns_from b (t ∷ ts) = cond (nat_lt t.key b) [] (t ∷ turns_from b ts)

-- A chunk: b is the least base of the first count components, or the end where there are none; the turns held below it are given, and
-- the others stay.
pub record IsChunk {S A : Type 0} (machine : Machine S A) (count : ℕ) (e : Exchange A) (b : ℕ) (e' : Exchange A) (chunk : List (Turn A)) : Type 0 where
  pub end : b ≤ machine.top
  pub low : (j : ℕ) → j < count → b ≤ (e.stub j).base
  pub most : (c : ℕ) → c ≤ machine.top → ((j : ℕ) → j < count → c ≤ (e.stub j).base) → c ≤ b
  pub turns : chunk ≡ turns_below b e.held
  pub rest : e' ≡ record { stub = e.stub; bound = e.bound; held = turns_from b e.held; given = e.given + length chunk }
