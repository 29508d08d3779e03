-- Groups of one component: each stub, exchange and lease of a component as those of its group.
use Rattle.std.specs.Prelude.{ℕ, ◌==◌, cond, List, [], ◌∷◌}
use Rattle.virtual_time.specs.Machine.{Machine}
use Rattle.virtual_time.specs.Worlds.{Commit, DeliverAntimessage, DeliverMessage, Meet, Process, RollBack, Step, start_part}
use Rattle.virtual_time.specs.Exchange.Stubs
use Rattle.virtual_time.specs.Exchange.Leases
use Rattle.virtual_time.specs.Exchange.Calls
use Rattle.virtual_time.specs.Exchange.Calls.{Call, CallAlone, CallChunk, CallCommit, CallMeet}
use Rattle.virtual_time.specs.Groups.Stubs.{Exchange, Stub}
use Rattle.virtual_time.specs.Groups.Leases.{Lease}
use Rattle.virtual_time.specs.Groups.Calls.{Shared}

-- Each component is a group of its own.
abbrev pub ones : ℕ → ℕ
ones j = j

-- The stub of a component as that of its group.
abbrev pub single_stub : {A : Type 0} → Stubs.Stub A → Stub A
single_stub st = record { base = st.base; floor = st.floor; taken = λ j. st.taken; standing = st.standing }

-- The exchange of components as one of groups.
abbrev pub single_exchange : {A : Type 0} → Stubs.Exchange A → Exchange A
single_exchange e =
    record {
      stub = λ j. single_stub (e.stub j);
      plus = λ j. (e.stub j).plus;
      minus = λ j. (e.stub j).minus;
      bound = e.bound;
      held = e.held;
      given = e.given;
    }

-- The lease of component i as that of its group: it has one part.
abbrev pub single_lease : {S A : Type 0} → Machine S A → ℕ → Leases.Lease S A → Lease S A
single_lease machine i l =
    record { base = l.base; floor = l.floor; part = λ j. cond (j == i) l.part (start_part machine j); out_plus = l.out_plus; out_minus = l.out_minus }

-- The exchange and the leases of components as those of their groups.
abbrev pub single_shared : {S A : Type 0} → Machine S A → Calls.Shared S A → Shared S A
single_shared machine u = record { exchange = single_exchange u.exchange; lease = λ j. single_lease machine j (u.lease j) }

-- No message meets its antimessage by these steps.
abbrev pub MeetsNothing : {A : Type 0} → List (Step A) → Type 0
MeetsNothing [] = Unit {0}
MeetsNothing (Meet j x ∷ ss) = ⊥
MeetsNothing (Process j ∷ ss) = MeetsNothing ss
MeetsNothing (DeliverMessage j x ∷ ss) = MeetsNothing ss
MeetsNothing (DeliverAntimessage j x ∷ ss) = MeetsNothing ss
MeetsNothing (RollBack j ∷ ss) = MeetsNothing ss
MeetsNothing (Commit b ∷ ss) = MeetsNothing ss

-- Nor by what a lease does alone in this call.
abbrev pub CallMeetsNothing : {A : Type 0} → Call A → Type 0
CallMeetsNothing (CallMeet i) = Unit {0}
CallMeetsNothing CallCommit = Unit {0}
CallMeetsNothing CallChunk = Unit {0}
CallMeetsNothing (CallAlone i steps) = MeetsNothing steps
