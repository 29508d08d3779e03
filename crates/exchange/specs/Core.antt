-- What a call is of the whole world that the exchange and its leases stand for.
use Rattle.std.specs.Prelude.{◌≡◌, ℕ, List, [], ◌∷◌}
use Rattle.terms.specs.Named.{Named}
use Rattle.event_keys.specs.declared.message.Sign.{Sign}
use Rattle.event_keys.specs.declared.message.Sign.TheVariants.{Plus, Minus}
use Rattle.event_keys.specs.declared.message.Signed.{Signed}
use Rattle.virtual_time.specs.Machine.{Machine}
use Rattle.virtual_time.specs.Entries.{Item}
use Rattle.virtual_time.specs.Rules.{IsWorld}
use Rattle.virtual_time.specs.Inverses.{Pair, meets_of}
use Rattle.virtual_time.specs.Worlds.{DeliverAntimessage, DeliverMessage, Reaches, Step, World}
use Rattle.virtual_time.specs.Exchange.Stubs.{Exchange, IsSound}
use Rattle.virtual_time.specs.Exchange.Leases.{IsLease, Lease, Matches}
use Rattle.virtual_time.specs.Exchange.Wholes.{IsWholeWorld, put_lease}
use Rattle.rollback.specs.Flight.{item_of}

module _ {S A : Type 0} (m : Machine S A) where
  -- these leases, one a component, match what the exchange keeps of them, and together they are the whole of this world
  pub record StandFor (e : Exchange A) (leases : ℕ → Lease S A) (w : World S A) : Type 0 where
    pub proper : (j : ℕ) → IsLease m j (leases j)
    pub match : (j : ℕ) → Matches m j (e.stub j) (leases j)
    pub whole : IsWholeWorld m e leases w
    pub world : IsWorld m w

  -- whatever world they stand for before, steps of this kind lead it to one that they stand for after
  abbrev pub SimulatesSteps : (List (Step A) → Type 0) → Exchange A → (ℕ → Lease S A) → Exchange A → (ℕ → Lease S A) → Type 0
  SimulatesSteps kind e leases new_e new_leases = (w : World S A) → StandFor e leases w → (steps : List (Step A)) × kind steps × (v : World S A) × Reaches m w steps v × StandFor new_e new_leases v

  -- whatever sound exchange and other leases there are, component i does just these steps where its lease becomes another
  abbrev pub Moves : ℕ → List (Step A) → Lease S A → Lease S A → Type 0
  Moves i steps lease new_lease = (count : ℕ) (e : Exchange A) (leases : ℕ → Lease S A) → IsSound m count e → leases i ≡ lease → SimulatesSteps (λ ss. ss ≡ steps) e leases e (put_lease i new_lease leases)

  -- what matched the one lease of component i matches the other
  abbrev pub StaysKnown : ℕ → Lease S A → Lease S A → Type 0
  StaysKnown i lease new_lease = (e : Exchange A) → Matches m i (e.stub i) lease → Matches m i (e.stub i) new_lease

-- messages meet their antimessages
abbrev pub AreMeetings : {A : Type 0} → List (Step A) → Type 0
AreMeetings {A} steps = (pairs : List (Pair A)) × (steps ≡ meets_of pairs)

-- a message or an antimessage comes to component i
abbrev pub delivery : ℕ → Sign → Item Named → Step Named
delivery i Plus x = DeliverMessage i x
delivery i Minus x = DeliverAntimessage i x

-- these come, one after the other
abbrev pub deliveries : ℕ → List Signed → List (Step Named)
deliveries i [] = []
deliveries i (s ∷ ss) = delivery i s.sign (item_of s) ∷ deliveries i ss
