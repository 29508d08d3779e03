-- Lists of calls within a window, where components are held in groups.
use Rattle.std.specs.Prelude.{◌≡◌, ℕ, ◌<◌, ◌⊎◌, Some, List, [], ◌∷◌}
use Rattle.virtual_time.specs.Machine.{Machine}
use Rattle.virtual_time.specs.Entries.{Entry}
use Rattle.virtual_time.specs.Records.{next_of}
use Rattle.virtual_time.specs.Worlds.{Commit, DeliverAntimessage, DeliverMessage, Meet, Process, RollBack, Step, World, record_of}
use Rattle.virtual_time.specs.Exchange.Windows.{HasRoom, IsWithin}
use Rattle.virtual_time.specs.Exchange.Calls.{Call, CallAlone, CallChunk, CallCommit, CallMeet}
use Rattle.virtual_time.specs.Groups.Leases.{Does, alone}
use Rattle.virtual_time.specs.Groups.Wholes.{part_in}
use Rattle.virtual_time.specs.Groups.Windows.{AreAmong, IsExchangeWithin}
use Rattle.virtual_time.specs.Groups.Calls.{Called, IsShared, Shared}

-- The steps are deliveries and meetings alone.
abbrev pub AreDeliveries : {A : Type 0} → List (Step A) → Type 0
AreDeliveries [] = Unit {0}
AreDeliveries (DeliverMessage i x ∷ ss) = AreDeliveries ss
AreDeliveries (DeliverAntimessage i x ∷ ss) = AreDeliveries ss
AreDeliveries (Meet i x ∷ ss) = AreDeliveries ss
AreDeliveries (Process i ∷ ss) = ⊥
AreDeliveries (RollBack i ∷ ss) = ⊥
AreDeliveries (Commit b ∷ ss) = ⊥

-- One entry of one of the group's components is processed, and there is room for it in the window.
pub record IsAhead {S A : Type 0} (machine : Machine S A) (group : ℕ → ℕ) (v g : ℕ) (u : Shared S A) (steps : List (Step A)) : Type 0 where
  pub who : ℕ
  pub of_group : group who ≡ g
  pub entry : Entry A
  pub step : steps ≡ Process who ∷ []
  pub next : next_of machine who (record_of ((u.lease g).part who)) ≡ Some entry
  pub room : HasRoom v (record_of ((u.lease g).part who)) entry

-- All that is in flight to the group's components is delivered, or has met.
pub record IsSettled {S A : Type 0} (machine : Machine S A) (group : ℕ → ℕ) (g : ℕ) (u : Shared S A) (steps : List (Step A)) : Type 0 where
  pub deliveries : AreDeliveries steps
  pub plus : (w : World S A) → Does machine group g (alone machine group g (u.lease g)) steps w → (i : ℕ) → group i ≡ g → (w.part i).plus ≡ []
  pub minus : (w : World S A) → Does machine group g (alone machine group g (u.lease g)) steps w → (i : ℕ) → group i ≡ g → (w.part i).minus ≡ []

-- The call stays within the window v of count components.
abbrev pub IsCallWithin : {S A : Type 0} → Machine S A → (ℕ → ℕ) → ℕ → ℕ → Shared S A → Call A → Type 0
IsCallWithin machine group v count u (CallMeet g) = AreAmong group count g
IsCallWithin machine group v count u CallCommit = Unit {0}
IsCallWithin machine group v count u CallChunk = Unit {0}
IsCallWithin machine group v count u (CallAlone g steps) = AreAmong group count g × (IsAhead machine group v g u steps ⊎ IsSettled machine group g u steps)

-- These calls, each within the window, lead from u to w.
abbrev pub CallsWithin : {S A : Type 0} → Machine S A → (ℕ → ℕ) → ℕ → ℕ → Shared S A → List (Call A) → Shared S A → Type 0
CallsWithin machine group v count u [] w = w ≡ u
CallsWithin {S} {A} machine group v count u (c ∷ cs) w =
    (mid : Shared S A) × IsCallWithin machine group v count u c × Called machine group count u c mid × CallsWithin machine group v count mid cs w

-- All is sound, and the exchange and the record of each of the first count components are within the window.
pub record IsWindowed {S A : Type 0} (machine : Machine S A) (group : ℕ → ℕ) (v count : ℕ) (u : Shared S A) : Type 0 where
  pub shared : IsShared machine group count u
  pub exchange : IsExchangeWithin machine group v count u.exchange
  pub leases : (i : ℕ) → i < count → IsWithin v count (record_of (part_in group u.lease i))
