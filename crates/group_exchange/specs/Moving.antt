-- What a meeting moves from a lease to the stubs, and from its stub to the lease.
use Rattle.std.specs.Prelude.{◌≡◌, ℕ, ◌+◌, ◌-◌, cond, nat_lt, Bool, Option, None, Some, List, [], ◌∷◌, length, slice_get, slice_set}
use Rattle.terms.specs.Named.{Named}
use Rattle.event_keys.specs.declared.key.Bound.{Bound}
use Rattle.event_keys.specs.declared.message.Sign.{Sign}
use Rattle.event_keys.specs.declared.message.Sign.TheVariants.{Plus, Minus}
use Rattle.event_keys.specs.declared.message.Signed.{Signed}
use Rattle.event_keys.specs.Ranks.{rank_of_bound}
use Rattle.antimessage.specs.Order.{IsInOrder}
use Rattle.virtual_time.specs.Bags.{times}
use Rattle.virtual_time.specs.Machine.{Lawful}
use Rattle.rollback.specs.declared.copied.Copies.{Copies}
use Rattle.rollback.specs.Flight.{in_flight, is_sign}
use Rattle.task_seed.specs.Turning.{System}
use Rattle.task_seed.specs.Machines.{machine}
use Rattle.group_exchange.specs.declared.stub.Stub.{Stub}
use Rattle.group_exchange.specs.ExchangeView.{AreStubs, IsStub}

-- how often the message of this key and action to component j is among these with this sign
abbrev pub among : System → Sign → ℕ → List Signed → ℕ → Named → ℕ
among s sign j xs k a = times (machine s) (in_flight sign j xs) k a

-- it is a message as it was sent
abbrev pub is_message : Signed → Bool
is_message x = is_sign Plus x.sign

-- of each message there are as many copies
abbrev pub IsCopied : List Signed → List Signed → Type 0
IsCopied out copies = (s : System) (j k : ℕ) (a : Named) → among s Plus j copies k a ≡ among s Plus j out k a

abbrev pub AreCopies : List Signed → Copies → Type 0
AreCopies out copies = IsCopied out copies.of_sender × IsCopied out copies.of_receiver

-- what is outgoing left: messages stand, and antimessages take theirs out
pub record IsSent (copies out : List Signed) (old new : Stub) : Type 0 where
  pub standing : (s : System) (j k : ℕ) (a : Named) → among s Plus j new.standing k a ≡ (among s Plus j copies k a + among s Plus j old.standing k a) - among s Minus j out k a
  pub rest : new ≡ record old { standing = new.standing }

-- these came, and copies of the messages: of a message and its antimessage only one is left
pub record IsArrived (came copies : List Signed) (old new : Stub) : Type 0 where
  pub messages : (s : System) (j k : ℕ) (a : Named) → among s Plus j new.inbox k a ≡ (among s Plus j came k a + among s Plus j old.inbox k a) - (among s Minus j came k a + among s Minus j old.inbox k a)
  pub antimessages : (s : System) (j k : ℕ) (a : Named) → among s Minus j new.inbox k a ≡ (among s Minus j came k a + among s Minus j old.inbox k a) - (among s Plus j came k a + among s Plus j old.inbox k a)
  pub copied : (s : System) (j k : ℕ) (a : Named) → among s Plus j new.copies k a ≡ (among s Plus j copies k a + among s Plus j old.copies k a) - (among s Minus j came k a + among s Minus j old.inbox k a)
  pub order : IsInOrder new.inbox
  pub rest : new ≡ record old { inbox = new.inbox; copies = new.copies }

-- the inbox went: its messages are taken, and its antimessages take theirs out
pub record IsHandedOver (old new : Stub) : Type 0 where
  pub taken : (s : System) (j k : ℕ) (a : Named) → among s Plus j new.taken k a ≡ (among s Plus j old.copies k a + among s Plus j old.taken k a) - among s Minus j old.inbox k a
  pub rest : new ≡ record old { taken = new.taken; inbox = []; copies = [] }

-- below the bound nothing is kept, and the bound is the base
pub record IsForgotten (bound : Bound) (old new : Stub) : Type 0 where
  pub taken : (s : System) (j k : ℕ) (a : Named) → among s Plus j new.taken k a ≡ cond (nat_lt k (rank_of_bound bound)) 0 (among s Plus j old.taken k a)
  pub standing : (s : System) (j k : ℕ) (a : Named) → among s Plus j new.standing k a ≡ cond (nat_lt k (rank_of_bound bound)) 0 (among s Plus j old.standing k a)
  pub rest : new ≡ record old { base = bound; taken = new.taken; standing = new.standing }

-- to whom the first of these goes, if there is any
abbrev pub first_receiver : List Signed → Option ℕ
first_receiver [] = None
first_receiver (x ∷ xs) = Some x.message.to

-- these came to the stub of a group, if there is one, and copies of the messages; the others stay
pub record IsBrought (g : ℕ) (came copies : List Signed) (old new : List Stub) : Type 0 where
  pub many : length new ≡ length old
  pub others : (h : ℕ) → (h ≡ g → ⊥) → slice_get new h ≡ slice_get old h
  pub own : (stub : Stub) → slice_get new g ≡ Some stub → (was : Stub) × (slice_get old g ≡ Some was) × IsArrived came copies was stub

-- all that is outgoing to the components of group g came to its stub: of a message and its antimessage only one is left
pub record IsReached (s : System) (group : ℕ → ℕ) (out : List Signed) (old : List Stub) (g : ℕ) (new : Stub) : Type 0 where
  pub was : Stub
  pub there : slice_get old g ≡ Some was
  pub messages : (j k : ℕ) (a : Named) → group j ≡ g → among s Plus j new.inbox k a ≡ (among s Plus j was.inbox k a + among s Plus j out k a) - (among s Minus j was.inbox k a + among s Minus j out k a)
  pub antimessages : (j k : ℕ) (a : Named) → group j ≡ g → among s Minus j new.inbox k a ≡ (among s Minus j was.inbox k a + among s Minus j out k a) - (among s Plus j was.inbox k a + among s Plus j out k a)
  pub kept : IsStub s group g new
  pub rest : new ≡ record was { inbox = new.inbox; copies = new.copies }

-- the same of all groups
pub record HaveCome (s : System) (group : ℕ → ℕ) (out : List Signed) (old new : List Stub) : Type 0 where
  pub many : length new ≡ length old
  pub each : (g : ℕ) (stub : Stub) → slice_get new g ≡ Some stub → IsReached s group out old g stub

-- where the stubs are those of their groups, and each outgoing message has its copy
abbrev pub AllCome : (ℕ → ℕ) → List Signed → List Signed → List Stub → List Stub → Type 0
AllCome group out copies old new = (s : System) → Lawful (machine s) → AreStubs s group old → ((j k : ℕ) (a : Named) → among s Plus j copies k a ≡ among s Plus j out k a) → HaveCome s group out old new

-- the stub of a group as its lease meets it: what is outgoing left, the inbox went, and below the bound nothing is kept
pub record HasMetStub (bound floor : Bound) (out copies : List Signed) (old new : Stub) : Type 0 where
  pub sent : Stub
  pub is_sent : IsSent copies out old sent
  pub handed : Stub
  pub is_handed : IsHandedOver sent handed
  pub kept : Stub
  pub is_kept : IsForgotten bound handed kept
  pub becomes : new ≡ record kept { floor = floor }

-- what is outgoing of group g came to the stubs of the others, and its own inbox to its tray
pub record HasPassedOn (group : ℕ → ℕ) (g : ℕ) (bound floor : Bound) (out : List Signed) (copies : Copies) (old new : List Stub) : Type 0 where
  pub was : Stub
  pub there : slice_get old g ≡ Some was
  pub own : Stub
  pub met : HasMetStub bound floor out copies.of_sender was own
  pub come : AllCome group out copies.of_receiver (slice_set old g own) new
  pub many : length new ≡ length old
