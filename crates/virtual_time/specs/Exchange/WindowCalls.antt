-- Lists of calls within a window.
use Rattle.std.specs.Prelude.{◌≡◌, ℕ, ◌<◌, ◌⊎◌, Some, List, [], ◌∷◌}
use Rattle.virtual_time.specs.Machine.{Machine}
use Rattle.virtual_time.specs.Entries.{Entry}
use Rattle.virtual_time.specs.Records.{next_of}
use Rattle.virtual_time.specs.Worlds.{Commit, DeliverAntimessage, DeliverMessage, Meet, Process, RollBack, Step, World, record_of}
use Rattle.virtual_time.specs.Exchange.Leases.{Does, alone}
use Rattle.virtual_time.specs.Exchange.Windows.{HasRoom, IsExchangeWithin, IsWithin}
use Rattle.virtual_time.specs.Exchange.Calls.{Call, CallAlone, CallChunk, CallCommit, CallMeet, Called, IsShared, Shared}

-- The steps are deliveries alone.
abbrev pub AreDeliveries : {A : Type 0} → List (Step A) → Type 0
AreDeliveries [] = Unit {0}
AreDeliveries (DeliverMessage j x ∷ ss) = AreDeliveries ss
AreDeliveries (DeliverAntimessage j x ∷ ss) = AreDeliveries ss
AreDeliveries (Process j ∷ ss) = ⊥
AreDeliveries (RollBack j ∷ ss) = ⊥
AreDeliveries (Meet j x ∷ ss) = ⊥
AreDeliveries (Commit b ∷ ss) = ⊥

-- One entry of component i is processed, and there is room for it in the window.
pub record IsAhead {S A : Type 0} (machine : Machine S A) (v i : ℕ) (u : Shared S A) (steps : List (Step A)) : Type 0 where
  pub entry : Entry A
  pub step : steps ≡ Process i ∷ []
  pub next : next_of machine i (record_of (u.lease i).part) ≡ Some entry
  pub room : HasRoom v (record_of (u.lease i).part) entry

-- The whole tray of component i is delivered.
pub record IsSettled {S A : Type 0} (machine : Machine S A) (i : ℕ) (u : Shared S A) (steps : List (Step A)) : Type 0 where
  pub deliveries : AreDeliveries steps
  pub plus : (w : World S A) → Does machine i (alone machine i (u.lease i)) steps w → (w.part i).plus ≡ []
  pub minus : (w : World S A) → Does machine i (alone machine i (u.lease i)) steps w → (w.part i).minus ≡ []

-- The call stays within the window v of count components.
abbrev pub IsCallWithin : {S A : Type 0} → Machine S A → ℕ → ℕ → Shared S A → Call A → Type 0
IsCallWithin machine v count u (CallMeet i) = i < count
IsCallWithin machine v count u CallCommit = Unit {0}
IsCallWithin machine v count u CallChunk = Unit {0}
IsCallWithin machine v count u (CallAlone i steps) = IsAhead machine v i u steps ⊎ IsSettled machine i u steps

-- These calls, each within the window, lead from u to w.
abbrev pub CallsWithin : {S A : Type 0} → Machine S A → ℕ → ℕ → Shared S A → List (Call A) → Shared S A → Type 0
CallsWithin machine v count u [] w = w ≡ u
CallsWithin {S} {A} machine v count u (c ∷ cs) w = (mid : Shared S A) × IsCallWithin machine v count u c × Called machine count u c mid × CallsWithin machine v count mid cs w

-- All is sound, and the exchange and each lease are within the window.
pub record IsWindowed {S A : Type 0} (machine : Machine S A) (v count : ℕ) (u : Shared S A) : Type 0 where
  pub shared : IsShared machine count u
  pub exchange : IsExchangeWithin machine v count u.exchange
  pub leases : (i : ℕ) → IsWithin v count (record_of (u.lease i).part)
