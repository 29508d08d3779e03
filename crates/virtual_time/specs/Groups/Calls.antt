-- Lists of calls where components are held in groups. A call names a group where it named a component.
use Rattle.std.specs.Prelude.{◌≡◌, ℕ, ◌≤◌, List, [], ◌∷◌, ◌++◌}
use Rattle.virtual_time.specs.Machine.{Machine}
use Rattle.virtual_time.specs.Reference.{Turn}
use Rattle.virtual_time.specs.Worlds.{Reaches, Step, World, start_world}
use Rattle.virtual_time.specs.Exchange.Calls.{Call, CallAlone, CallChunk, CallCommit, CallMeet}
use Rattle.virtual_time.specs.Groups.Stubs.{Exchange, IsSound, start_exchange}
use Rattle.virtual_time.specs.Groups.Leases.{Does, IsLease, Lease, Matches, alone, lease_of, start_lease}
use Rattle.virtual_time.specs.Groups.Meetings.{IsChunk, IsCommit, Met}
use Rattle.virtual_time.specs.Groups.Wholes.{IsWholeWorld, put_lease}

-- The exchange, and the lease of each group, whoever holds it.
pub record Shared (State Action : Type 0) : Type 0 where
  pub exchange : Exchange Action
  pub lease : ℕ → Lease State Action

-- What a call does, where there are count components.
abbrev pub Called : {S A : Type 0} → Machine S A → (ℕ → ℕ) → ℕ → Shared S A → Call A → Shared S A → Type 0
Called {S} {A} machine group count u (CallMeet g) v =
    (e : Exchange A) × (l : Lease S A) × Met machine group g u.exchange (u.lease g) e l × (v ≡ record { exchange = e; lease = put_lease g l u.lease })
Called {S} {A} machine group count u CallCommit v = (e : Exchange A) × IsCommit machine u.exchange e × (v ≡ record { exchange = e; lease = u.lease })
Called {S} {A} machine group count u CallChunk v =
    (b : ℕ) × (e : Exchange A) × (ts : List (Turn A)) × IsChunk machine group count u.exchange b e ts × (v ≡ record { exchange = e; lease = u.lease })
Called {S} {A} machine group count u (CallAlone g steps) v =
    (w : World S A) × Does machine group g (alone machine group g (u.lease g)) steps w × (v ≡ record { exchange = u.exchange; lease = put_lease g (lease_of group g (u.lease g) w) u.lease })

-- These calls of count components, one after the other, lead from u to v.
abbrev pub Calls : {S A : Type 0} → Machine S A → (ℕ → ℕ) → ℕ → Shared S A → List (Call A) → Shared S A → Type 0
Calls machine group count u [] v = v ≡ u
Calls {S} {A} machine group count u (c ∷ cs) v = (mid : Shared S A) × Called machine group count u c mid × Calls machine group count mid cs v

-- The exchange and the leases at the start.
abbrev pub start_shared : {S A : Type 0} → Machine S A → (ℕ → ℕ) → ℕ → Shared S A
start_shared machine group count = record { exchange = start_exchange machine group count; lease = start_lease machine group count }

-- All is sound, each lease matches its stub, and the whole is a world that core steps reach from the start.
pub record IsShared {S A : Type 0} (machine : Machine S A) (group : ℕ → ℕ) (count : ℕ) (u : Shared S A) : Type 0 where
  pub sound : IsSound machine group count u.exchange
  pub leases : (g : ℕ) → IsLease machine group g (u.lease g)
  pub match : (g : ℕ) → Matches machine group g (u.exchange.stub g) (u.lease g)
  pub steps : List (Step A)
  pub world : World S A
  pub reached : Reaches machine (start_world machine) steps world
  pub whole : IsWholeWorld machine group u.exchange u.lease world

-- No message is on its way to a component beyond the components.
pub record IsQuiet {S A : Type 0} (count : ℕ) (u : Shared S A) : Type 0 where
  pub inbox : (j : ℕ) → count ≤ j → u.exchange.plus j ≡ []
  pub bag : (g j : ℕ) → count ≤ j → (u.lease g).out_plus j ≡ []

-- The turns that the chunks among these calls gave, the last one first.
abbrev pub given_by : {S A : Type 0} → (machine : Machine S A) (group : ℕ → ℕ) (count : ℕ) (u : Shared S A) (calls : List (Call A)) (v : Shared S A) → Calls machine group count u calls v → List (Turn A)
given_by machine group count u [] v h = []
given_by machine group count u (CallMeet g ∷ cs) v h = given_by machine group count h.0 cs v h.2
given_by machine group count u (CallCommit ∷ cs) v h = given_by machine group count h.0 cs v h.2
given_by machine group count u (CallChunk ∷ cs) v h = given_by machine group count h.0 cs v h.2 ++ h.1.2
given_by machine group count u (CallAlone g steps ∷ cs) v h = given_by machine group count h.0 cs v h.2
