-- What a meeting moves from a lease to the stubs, and from its stub to the lease.
use Rattle.std.specs.Prelude.{◌≡◌, ℕ, ◌+◌, ◌-◌, ◌⊎◌, cond, nat_lt, Option, None, Some, List, [], ◌∷◌, filter, length, slice_get}
use Rattle.terms.specs.Named.{Named}
use Rattle.event_keys.specs.declared.key.Bound.{Bound}
use Rattle.event_keys.specs.declared.message.Sign.{Sign}
use Rattle.event_keys.specs.declared.message.Sign.TheVariants.{Plus, Minus}
use Rattle.event_keys.specs.declared.message.Signed.{Signed}
use Rattle.event_keys.specs.Ranks.{rank_of_bound}
use Rattle.antimessage.specs.Bags.{insert_all, is_to}
use Rattle.antimessage.specs.Counts.{Each}
use Rattle.antimessage.specs.Order.{IsInOrder}
use Rattle.virtual_time.specs.Bags.{times}
use Rattle.rollback.specs.declared.copied.Copies.{Copies}
use Rattle.rollback.specs.Flight.{in_flight}
use Rattle.task_seed.specs.Turning.{System}
use Rattle.task_seed.specs.Machines.{machine}
use Rattle.exchange.specs.declared.stub.Stub.{Stub}

-- how often the message of this key and action to component j is among these with this sign
abbrev pub among : System → Sign → ℕ → List Signed → ℕ → Named → ℕ
among s sign j xs k a = times (machine s) (in_flight sign j xs) k a

-- what is outgoing left: messages stand, and antimessages take theirs out
pub record IsSent (copies out : List Signed) (old new : Stub) : Type 0 where
  pub standing : (s : System) (j k : ℕ) (a : Named) → among s Plus j new.standing k a ≡ (among s Plus j copies k a + among s Plus j old.standing k a) - among s Minus j out k a
  pub rest : new ≡ record old { standing = new.standing }

-- these came, and copies of the messages: of a message and its antimessage only one is left
pub record IsArrived (came copies : List Signed) (old new : Stub) : Type 0 where
  pub messages : (s : System) (j k : ℕ) (a : Named) → among s Plus j new.inbox k a ≡ (among s Plus j came k a + among s Plus j old.inbox k a) - (among s Minus j came k a + among s Minus j old.inbox k a)
  pub antimessages : (s : System) (j k : ℕ) (a : Named) → among s Minus j new.inbox k a ≡ (among s Minus j came k a + among s Minus j old.inbox k a) - (among s Plus j came k a + among s Plus j old.inbox k a)
  pub copied : (s : System) (j k : ℕ) (a : Named) → among s Plus j new.copies k a ≡ (among s Plus j copies k a + among s Plus j old.copies k a) - (among s Minus j came k a + among s Minus j old.inbox k a)
  pub order : IsInOrder new.inbox
  pub rest : new ≡ record old { inbox = new.inbox; copies = new.copies }

-- these came, and copies of the messages: where nothing came the stub is as it was
abbrev pub HasCome : List Signed → List Signed → Stub → Stub → Type 0
HasCome came copies old new = IsArrived came copies old new ⊎ ((came ≡ []) × (copies ≡ []) × (new ≡ old))

-- the inbox went: its messages are taken, and its antimessages take theirs out
pub record IsHandedOver (old new : Stub) : Type 0 where
  pub taken : (s : System) (j k : ℕ) (a : Named) → among s Plus j new.taken k a ≡ (among s Plus j old.copies k a + among s Plus j old.taken k a) - among s Minus j old.inbox k a
  pub rest : new ≡ record old { taken = new.taken; inbox = []; copies = [] }

-- below the bound nothing is kept, and the bound is the base
pub record IsForgotten (bound : Bound) (old new : Stub) : Type 0 where
  pub taken : (s : System) (j k : ℕ) (a : Named) → among s Plus j new.taken k a ≡ cond (nat_lt k (rank_of_bound bound)) 0 (among s Plus j old.taken k a)
  pub standing : (s : System) (j k : ℕ) (a : Named) → among s Plus j new.standing k a ≡ cond (nat_lt k (rank_of_bound bound)) 0 (among s Plus j old.standing k a)
  pub rest : new ≡ record old { base = bound; taken = new.taken; standing = new.standing }

-- to whom the first of these goes, if there is any
abbrev pub first_receiver : List Signed → Option ℕ
first_receiver [] = None
first_receiver (x ∷ xs) = Some x.message.to

-- these came to the stub of a component, if there is one, and copies of the messages; the others stay
pub record IsBrought (to : ℕ) (came copies : List Signed) (old new : List Stub) : Type 0 where
  pub many : length new ≡ length old
  pub others : (j : ℕ) → (j ≡ to → ⊥) → slice_get new j ≡ slice_get old j
  pub own : (stub : Stub) → slice_get new to ≡ Some stub → (was : Stub) × (slice_get old to ≡ Some was) × HasCome came copies was stub

-- what is outgoing to component j came to its stub
pub record IsReached (out copies : List Signed) (old : List Stub) (j : ℕ) (new : Stub) : Type 0 where
  pub was : Stub
  pub there : slice_get old j ≡ Some was
  pub come : HasCome (filter (is_to j) out) (filter (is_to j) copies) was new

-- what is outgoing of component i came to all stubs, and its own inbox to its tray
pub record IsPassedOn (i : ℕ) (bound floor : Bound) (out of_sender of_receiver tray new_tray : List Signed) (old new : List Stub) : Type 0 where
  pub many : length new ≡ length old
  pub others : (j : ℕ) (stub : Stub) → (j ≡ i → ⊥) → slice_get new j ≡ Some stub → IsReached out of_receiver old j stub
  -- its own stub, step by step
  pub was : Stub
  pub there : slice_get old i ≡ Some was
  pub sent : Stub
  pub is_sent : IsSent of_sender out was sent
  pub arrived : Stub
  pub has_come : HasCome (filter (is_to i) out) (filter (is_to i) of_receiver) sent arrived
  pub handed : Stub
  pub is_handed : IsHandedOver arrived handed
  pub kept : Stub
  pub is_kept : IsForgotten bound handed kept
  pub here : slice_get new i ≡ Some (record kept { floor = floor })
  pub in_tray : new_tray ≡ insert_all arrived.inbox tray

-- the same, with both copies of what is outgoing
abbrev pub HasPassedOn : ℕ → Bound → Bound → List Signed → Copies → List Signed → List Signed → List Stub → List Stub → Type 0
HasPassedOn i bound floor out copies = IsPassedOn i bound floor out copies.of_sender copies.of_receiver

-- what is in the inbox of component i came to it
abbrev pub HasOwnInbox : ℕ → List Stub → Type 0
HasOwnInbox i stubs = (stub : Stub) → slice_get stubs i ≡ Some stub → Each (λ x. x.message.to ≡ i) stub.inbox
