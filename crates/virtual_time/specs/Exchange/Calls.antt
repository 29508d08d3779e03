-- Lists of calls: meetings, commits, chunks, and what leases do by themselves, in any order.
use Rattle.std.specs.Prelude.{◌≡◌, ℕ, ◌≤◌, List, [], ◌∷◌}
use Rattle.virtual_time.specs.Machine.{Machine}
use Rattle.virtual_time.specs.Reference.{Turn}
use Rattle.virtual_time.specs.Worlds.{Reaches, Step, World, start_world}
use Rattle.virtual_time.specs.Exchange.Stubs.{Exchange, IsSound, start_exchange}
use Rattle.virtual_time.specs.Exchange.Leases.{Does, IsLease, Lease, Matches, alone, lease_of, start_lease}
use Rattle.virtual_time.specs.Exchange.Meetings.{IsChunk, IsCommit, Met}
use Rattle.virtual_time.specs.Exchange.Wholes.{IsWholeWorld, put_lease}

-- The exchange, and the lease of each component, whoever holds it.
pub record Shared (State Action : Type 0) : Type 0 where
  pub exchange : Exchange Action
  pub lease : ℕ → Lease State Action

-- What a worker may call: a meeting of a component, a commit, a chunk, and steps of a component's own, away from the exchange.
pub data Call (Action : Type 0) : Type 0 where
  CallMeet : ℕ → Call Action
  CallCommit : Call Action
  CallChunk : Call Action
  CallAlone : ℕ → List (Step Action) → Call Action

-- What a call does, where there are count components.
abbrev pub Called : {S A : Type 0} → Machine S A → ℕ → Shared S A → Call A → Shared S A → Type 0
Called {S} {A} machine count u (CallMeet i) v = (e : Exchange A) × (l : Lease S A) × Met machine i u.exchange (u.lease i) e l × (v ≡ record { exchange = e; lease = put_lease i l u.lease })
Called {S} {A} machine count u CallCommit v = (e : Exchange A) × IsCommit machine u.exchange e × (v ≡ record { exchange = e; lease = u.lease })
Called {S} {A} machine count u CallChunk v = (b : ℕ) × (e : Exchange A) × (ts : List (Turn A)) × IsChunk machine count u.exchange b e ts × (v ≡ record { exchange = e; lease = u.lease })
Called {S} {A} machine count u (CallAlone i steps) v =
    (w : World S A) × Does machine i (alone machine i (u.lease i)) steps w × (v ≡ record { exchange = u.exchange; lease = put_lease i (lease_of i (u.lease i).floor w) u.lease })

-- These calls of count components, one after the other, lead from u to v.
abbrev pub Calls : {S A : Type 0} → Machine S A → ℕ → Shared S A → List (Call A) → Shared S A → Type 0
Calls machine count u [] v = v ≡ u
Calls {S} {A} machine count u (c ∷ cs) v = (mid : Shared S A) × Called machine count u c mid × Calls machine count mid cs v

-- The exchange and the leases at the start.
abbrev pub start_shared : {S A : Type 0} → Machine S A → Shared S A
start_shared machine = record { exchange = start_exchange machine; lease = start_lease machine }

-- All is sound, each lease matches its stub, and the whole is a world that core steps reach from the start.
pub record IsShared {S A : Type 0} (machine : Machine S A) (count : ℕ) (u : Shared S A) : Type 0 where
  pub sound : IsSound machine count u.exchange
  pub leases : (i : ℕ) → IsLease machine i (u.lease i)
  pub match : (i : ℕ) → Matches machine i (u.exchange.stub i) (u.lease i)
  pub steps : List (Step A)
  pub world : World S A
  pub reached : Reaches machine (start_world machine) steps world
  pub whole : IsWholeWorld machine u.exchange u.lease world

-- No message is on its way to a component beyond the components.
pub record IsQuiet {S A : Type 0} (count : ℕ) (u : Shared S A) : Type 0 where
  pub inbox : (j : ℕ) → count ≤ j → (u.exchange.stub j).plus ≡ []
  pub bag : (i j : ℕ) → count ≤ j → (u.lease i).out_plus j ≡ []
