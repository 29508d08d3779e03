-- What workers share, and the exchange of the theory that it is.
use Rattle.std.specs.Prelude.{◌≡◌, ℕ, ◌<◌, ◌≤◌, ◌⊎◌, Bool, true, false, Option, None, Some, List, IfSome, if◌then◌else◌, nat_lt, length, option_map, slice_get}
use Rattle.terms.specs.Datum.{Datum}
use Rattle.terms.specs.Named.{Named}
use Rattle.event_keys.specs.declared.key.Bound.{Bound}
use Rattle.event_keys.specs.declared.key.Bound.TheVariants.{At, End}
use Rattle.event_keys.specs.declared.message.Sign.TheVariants.{Plus, Minus}
use Rattle.event_keys.specs.declared.outcome.Turned.{Turned}
use Rattle.event_keys.specs.declared.key.Key.{Key}
use Rattle.event_keys.specs.Ranks.{rank, rank_of_bound}
use Rattle.raw_events.specs.Around.{is_nonempty}
use Rattle.antimessage.specs.Bags.{least_of}
use Rattle.antimessage.specs.Counts.{Each}
use Rattle.antimessage.specs.Order.{IsInOrder}
use Rattle.virtual_time.specs.Bags.{times}
use Rattle.virtual_time.specs.Machine.{Machine}
use Rattle.virtual_time.specs.Reference.{point}
use Rattle.virtual_time.specs.Exchange.Stubs.{Stub as StubSeen, Exchange as ExchangeSeen, IsSound, start_stub}
use Rattle.rollback.specs.Flight.{in_flight}
use Rattle.task_seed.specs.Turning.{System, key_of}
use Rattle.task_seed.specs.Machines.{machine, turn_rank}
use Rattle.exchange.specs.declared.stub.Stub.{Stub}
use Rattle.exchange.specs.declared.window.Window.{Window}
use Rattle.exchange.specs.Held.{put_all, AreInOrder, AreOwned}

-- a setup, a stub for each component, the committed bound, for each component the turns taken in and not given in a chunk, the first one
-- first, how many were given, and the window, if there is one
pub record ExchangeView (P : Type 0) : Type 0 where
  pub setup : P
  pub stubs : List Stub
  pub bound : Bound
  pub held : List (List Turned)
  pub given : ℕ
  pub window : Option Window

-- the stub of component j as the theory sees it
abbrev pub stub_of : Machine (List Datum) Named → ℕ → Stub → StubSeen Named
stub_of m j s =
    record {
      base = rank_of_bound s.base;
      floor = rank_of_bound s.floor;
      taken = λ k a. times m (in_flight Plus j s.taken) k a;
      standing = λ k a l. times m (in_flight Plus l s.standing) k a;
      plus = in_flight Plus j s.inbox;
      minus = in_flight Minus j s.inbox;
    }

-- where there is no component j its stub is as at the start
abbrev pub stub_or_start : Machine (List Datum) Named → ℕ → Option Stub → StubSeen Named
stub_or_start m j None = start_stub m j
stub_or_start m j (Some s) = stub_of m j s

abbrev pub exchange_of : {P : Type 0} → Machine (List Datum) Named → ExchangeView P → ExchangeSeen Named
exchange_of m e = record { stub = λ j. stub_or_start m j (slice_get e.stubs j); bound = rank_of_bound e.bound; held = put_all e.held; given = e.given }

-- the inbox of component i goes to it, holds no message with its antimessage, and has a copy of each message; its turns below the bound are counted, and the key of the one after them is there
pub record IsStub (s : System) (bound i : ℕ) (stub : Stub) : Type 0 where
  pub inbox : Each (λ x. x.message.to ≡ i) stub.inbox
  pub order : IsInOrder stub.inbox
  -- no message of it has its antimessage beside it
  pub apart : (k : ℕ) (a : Named) → (times (machine s) (in_flight Plus i stub.inbox) k a ≡ 0) ⊎ (times (machine s) (in_flight Minus i stub.inbox) k a ≡ 0)
  pub copied : (k : ℕ) (a : Named) → times (machine s) (in_flight Plus i stub.copies) k a ≡ times (machine s) (in_flight Plus i stub.inbox) k a
  pub passed : stub.passed ≡ (point (machine s) bound).next i
  pub ahead : stub.ahead ≡ key_of s i stub.passed
  pub small : IfSome stub.ahead (λ key. key.number < 4294967296)
  pub few : stub.passed ≤ 4294967296

-- sound, with a stub for each component, and a list of its turns, in the order of keys
pub record IsValidExchange {P : Type 0} (s : System) (e : ExchangeView P) : Type 0 where
  pub sound : IsSound (machine s) (length s.composition) (exchange_of (machine s) e)
  pub many : length e.stubs ≡ length s.composition
  pub lists : length e.held ≡ length s.composition
  pub order : AreInOrder e.held
  pub owners : AreOwned 0 e.held
  pub stubs : (j : ℕ) (stub : Stub) → slice_get e.stubs j ≡ Some stub → IsStub s (rank_of_bound e.bound) j stub

-- messages wait in the inbox of the stub, if there is one
abbrev pub has_mail : Option Stub → Bool
has_mail None = false
has_mail (Some stub) = is_nonempty stub.inbox

-- the earlier of two bounds
abbrev pub earlier : Bound → Bound → Bound
earlier a b = if nat_lt (rank_of_bound a) (rank_of_bound b) then a else b

-- up to where nothing of the component can come any more
abbrev pub clear_until : Stub → Bound
clear_until stub = earlier stub.floor (least_of stub.inbox)

-- the stub with the turns below a bound counted
abbrev pub passing : System → ℕ → ℕ → Stub → Stub
passing s b i stub = record stub { passed = (point (machine s) b).next i; ahead = key_of s i ((point (machine s) b).next i) }

-- there is a key, and it is below a bound
abbrev pub is_ahead_below : ℕ → Option Key → Bool
is_ahead_below b None = false
is_ahead_below b (Some key) = nat_lt (rank key) b

-- the turns of component i that are counted are below a bound, and the key of the one after them is there
pub record IsPassing (s : System) (b i : ℕ) (stub : Stub) : Type 0 where
  pub ahead : stub.ahead ≡ key_of s i stub.passed
  pub small : IfSome stub.ahead (λ key. key.number < 4294967296)
  pub few : stub.passed ≤ 4294967296
  pub before : (n : ℕ) → n < stub.passed → turn_rank s i n < b

abbrev pub is_end : Bound → Bool
is_end (At key) = false
is_end End = true

-- the base of the stub is the end
abbrev pub is_ended : Stub → Bool
is_ended stub = is_end stub.base

-- of each stub the turns below a bound are counted
abbrev pub HavePassed : System → Bound → List Stub → List Stub → Type 0
HavePassed s bound old new = (j : ℕ) → slice_get new j ≡ option_map (passing s (rank_of_bound bound) j) (slice_get old j)

-- each stub counts turns below a bound
abbrev pub ArePassing : System → Bound → List Stub → Type 0
ArePassing s bound stubs = (j : ℕ) (stub : Stub) → slice_get stubs j ≡ Some stub → IsPassing s (rank_of_bound bound) j stub
