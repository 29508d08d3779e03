-- Words of the proofs on leases.
use Rattle.std.specs.Prelude.{◌≡◌, ℕ, ◌+◌, ◌<◌, ◌≤◌, List, [], ◌∷◌}
use Rattle.virtual_time.specs.Worlds.{Commit, DeliverAntimessage, DeliverMessage, Meet, Part, Process, RollBack, Step, World}
use Rattle.virtual_time.specs.Machine.{Machine}
use Rattle.virtual_time.specs.Entries.{below, from, number, replay}
use Rattle.virtual_time.proofs.Moves.{walk_minus, walk_on, walk_plus}
use Rattle.virtual_time.specs.Bags.{AllFrom, times}

-- A lease alone: the world of its component, with its tray as the flight to it and its outgoing bag as the flight to the others.
-- the component's next entry and all in flight are not below b
pub record IsOver {S A : Type 0} (machine : Machine S A) (i b j : ℕ) (c : Part S A) : Type 0 where
  pub turn : j ≡ i → b ≤ machine.key j (number c.first c.done)
  pub pending : AllFrom b c.pending
  pub owed : AllFrom b c.owed
  pub plus : AllFrom b c.plus
  pub minus : AllFrom b c.minus

abbrev pub Over : {S A : Type 0} → Machine S A → ℕ → ℕ → World S A → Type 0
Over machine i b w = (j : ℕ) → IsOver machine i b j (w.part j)

-- only component i did something from w to v
pub record Private {S A : Type 0} (machine : Machine S A) (i : ℕ) (w v : World S A) : Type 0 where
  pub bound : v.bound ≡ w.bound
  pub committed : v.committed ≡ w.committed
  pub base : (j : ℕ) → (j ≡ i → ⊥) → (v.part j).base ≡ (w.part j).base
  pub first : (j : ℕ) → (j ≡ i → ⊥) → (v.part j).first ≡ (w.part j).first
  pub done : (j : ℕ) → (j ≡ i → ⊥) → (v.part j).done ≡ (w.part j).done
  pub pending : (j : ℕ) → (j ≡ i → ⊥) → (v.part j).pending ≡ (w.part j).pending
  pub owed : (j : ℕ) → (j ≡ i → ⊥) → (v.part j).owed ≡ (w.part j).owed
  pub plus : (j k : ℕ) (a : A) → (j ≡ i → ⊥) → (machine.owner k ≡ i → ⊥) → times machine (v.part j).plus k a ≡ times machine (w.part j).plus k a
  pub minus : (j k : ℕ) (a : A) → (j ≡ i → ⊥) → (machine.owner k ≡ i → ⊥) → times machine (v.part j).minus k a ≡ times machine (w.part j).minus k a

-- Component i in w is that in u, cut at g; what is in flight in w is that in u with the rest.
pub record IsCut {S A : Type 0} (machine : Machine S A) (g i : ℕ) (c d : Part S A) : Type 0 where
  pub base : d.base ≡ replay machine i c.base (below g c.done)
  pub first : d.first ≡ number c.first (below g c.done)
  pub done : d.done ≡ from g c.done
  pub pending : d.pending ≡ c.pending
  pub owed : d.owed ≡ c.owed

pub record Follows {S A : Type 0} (machine : Machine S A) (g i : ℕ) (p m : ℕ → ℕ → A → ℕ) (u w : World S A) : Type 0 where
  pub part : IsCut machine g i (u.part i) (w.part i)
  pub plus : (j k : ℕ) (a : A) → times machine (w.part j).plus k a ≡ times machine (u.part j).plus k a + p j k a
  pub minus : (j k : ℕ) (a : A) → times machine (w.part j).minus k a ≡ times machine (u.part j).minus k a + m j k a

-- These steps are component i's own, and lead from u to v: its entries, and deliveries from its tray.
abbrev pub WalksAlone : {S A : Type 0} → Machine S A → ℕ → World S A → List (Step A) → World S A → Type 0
WalksAlone machine i u [] v = v ≡ u
WalksAlone machine i u (Process j ∷ ss) v = (j ≡ i) × WalksAlone machine i (walk_on machine i u) ss v
WalksAlone machine i u (DeliverMessage j x ∷ ss) v = (j ≡ i) × (0 < times machine (u.part i).plus x.key x.action) × WalksAlone machine i (walk_plus machine i x u) ss v
WalksAlone machine i u (DeliverAntimessage j x ∷ ss) v = (j ≡ i) × (0 < times machine (u.part i).minus x.key x.action) × WalksAlone machine i (walk_minus machine i x u) ss v
WalksAlone machine i u (RollBack j ∷ ss) v = ⊥
WalksAlone machine i u (Meet j x ∷ ss) v = ⊥
WalksAlone machine i u (Commit b ∷ ss) v = ⊥
