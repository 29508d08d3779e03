-- What a call is of the whole world that the exchange and the leases of groups stand for.
use Rattle.std.specs.Prelude.{◌≡◌, ℕ, List}
use Rattle.virtual_time.specs.Machine.{Machine}
use Rattle.virtual_time.specs.Rules.{IsWorld}
use Rattle.virtual_time.specs.Inverses.{Pair, meets_of}
use Rattle.virtual_time.specs.Worlds.{Reaches, Step, World}
use Rattle.virtual_time.specs.Groups.Stubs.{Exchange, IsSound}
use Rattle.virtual_time.specs.Groups.Leases.{Does, IsLease, Lease, Matches, alone}
use Rattle.virtual_time.specs.Groups.Wholes.{IsWholeWorld, put_lease}

module _ {S A : Type 0} (m : Machine S A) (group : ℕ → ℕ) where
  -- these leases, one a group, match what the exchange keeps of them, and together they are the whole of this world
  pub record StandFor (e : Exchange A) (leases : ℕ → Lease S A) (w : World S A) : Type 0 where
    pub proper : (g : ℕ) → IsLease m group g (leases g)
    pub match : (g : ℕ) → Matches m group g (e.stub g) (leases g)
    pub whole : IsWholeWorld m group e leases w
    pub world : IsWorld m w

  -- whatever world they stand for before, steps of this kind lead it to one that they stand for after
  abbrev pub SimulatesSteps : (List (Step A) → Type 0) → Exchange A → (ℕ → Lease S A) → Exchange A → (ℕ → Lease S A) → Type 0
  SimulatesSteps kind e leases new_e new_leases = (w : World S A) → StandFor e leases w → (steps : List (Step A)) × kind steps × (v : World S A) × Reaches m w steps v × StandFor new_e new_leases v

  -- whatever sound exchange and other leases there are, the components of group g do steps of their own where its lease becomes another
  abbrev pub Moves : ℕ → Lease S A → Lease S A → Type 0
  Moves g lease new_lease =
      (count : ℕ) (e : Exchange A) (leases : ℕ → Lease S A) → IsSound m group count e → leases g ≡ lease
      → SimulatesSteps (λ steps. Does m group g (alone m group g lease) steps (alone m group g new_lease)) e leases e (put_lease g new_lease leases)

  -- what matched the one lease of group g matches the other
  abbrev pub StaysKnown : ℕ → Lease S A → Lease S A → Type 0
  StaysKnown g lease new_lease = (e : Exchange A) → Matches m group g (e.stub g) lease → Matches m group g (e.stub g) new_lease

-- messages meet their antimessages
abbrev pub AreMeetings : {A : Type 0} → List (Step A) → Type 0
AreMeetings {A} steps = (pairs : List (Pair A)) × (steps ≡ meets_of pairs)
