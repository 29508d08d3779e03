-- What workers share who hold components in groups, and the exchange of the theory that it is.
use Rattle.std.specs.Prelude.{◌≡◌, ℕ, ◌<◌, ◌≤◌, ◌⊎◌, Bool, true, false, Option, None, Some, List, [], IfSome, if◌then◌else◌, nat_lt, length, option_map, slice_get, slice_index_or}
use Rattle.terms.specs.Datum.{Datum}
use Rattle.terms.specs.Named.{Named}
use Rattle.event_keys.specs.declared.key.Bound.{Bound}
use Rattle.event_keys.specs.declared.key.Bound.TheVariants.{At, End}
use Rattle.event_keys.specs.declared.message.Sign.TheVariants.{Plus, Minus}
use Rattle.event_keys.specs.declared.message.Signed.{Signed}
use Rattle.event_keys.specs.declared.outcome.Turned.{Turned}
use Rattle.event_keys.specs.declared.key.Key.{Key}
use Rattle.event_keys.specs.Ranks.{rank, rank_of_bound}
use Rattle.raw_events.specs.Around.{is_nonempty}
use Rattle.antimessage.specs.Bags.{least_of}
use Rattle.antimessage.specs.Counts.{Each}
use Rattle.antimessage.specs.Order.{IsInOrder}
use Rattle.virtual_time.specs.Bags.{times}
use Rattle.virtual_time.specs.Machine.{Machine}
use Rattle.virtual_time.specs.Reference.{point}
use Rattle.virtual_time.specs.Groups.Stubs.{Stub as StubSeen, Exchange as ExchangeSeen, IsSound}
use Rattle.rollback.specs.Flight.{in_flight}
use Rattle.task_seed.specs.Turning.{System, key_of}
use Rattle.task_seed.specs.Machines.{machine, turn_rank}
use Rattle.partitions.specs.Partitions.{IsPartition}
use Rattle.groups.specs.declared.window.Window.{Window}
use Rattle.group_exchange.specs.declared.passage.Passage.{Passage}
use Rattle.group_exchange.specs.declared.stub.Stub.{Stub}
use Rattle.group_exchange.specs.Held.{put_all, AreInOrder, AreOwned}

-- a setup, of each component the number of its group, a stub for each group, for each component how far its turns are counted, the
-- committed bound, for each component the turns taken in and not given in a chunk, the first one first, how many were given, and the
-- window of its leases, if they have one
pub record ExchangeView (P : Type 0) : Type 0 where
  pub setup : P
  pub groups : List ℕ
  pub stubs : List Stub
  pub passages : List Passage
  pub bound : Bound
  pub held : List (List Turned)
  pub given : ℕ
  pub window : Option Window

-- the group of component j, where a list has those of the first; any other is in none
abbrev pub group_at : List ℕ → ℕ → ℕ
group_at groups j = slice_index_or groups j 65536

-- what only a group's own lease changes of its stub: all but its inbox
abbrev pub without_inbox : Stub → Stub
without_inbox stub = record stub { inbox = []; copies = [] }

-- the stub of a group as the theory sees it
abbrev pub stub_of : Machine (List Datum) Named → Stub → StubSeen Named
stub_of m s =
    record {
      base = rank_of_bound s.base;
      floor = rank_of_bound s.floor;
      taken = λ j k a. times m (in_flight Plus j s.taken) k a;
      standing = λ k a j. times m (in_flight Plus j s.standing) k a;
    }

-- where there is no such group its stub has nothing, and nothing to do
abbrev pub stub_or_none : Machine (List Datum) Named → Option Stub → StubSeen Named
stub_or_none m None = record { base = 0; floor = m.top; taken = λ j k a. 0; standing = λ k a j. 0 }
stub_or_none m (Some s) = stub_of m s

-- what is in the inbox of a group, if there is one
abbrev pub inbox_of : Option Stub → List Signed
inbox_of None = []
inbox_of (Some s) = s.inbox

-- the inbox of component j is in that of its group
abbrev pub inbox_in : (ℕ → ℕ) → List Stub → ℕ → List Signed
inbox_in group stubs j = inbox_of (slice_get stubs (group j))

abbrev pub exchange_of : {P : Type 0} → Machine (List Datum) Named → ExchangeView P → ExchangeSeen Named
exchange_of m e =
    record {
      stub = λ g. stub_or_none m (slice_get e.stubs g);
      plus = λ j. in_flight Plus j (inbox_in (group_at e.groups) e.stubs j);
      minus = λ j. in_flight Minus j (inbox_in (group_at e.groups) e.stubs j);
      bound = rank_of_bound e.bound;
      held = put_all e.held;
      given = e.given;
    }

-- the inbox of group g has messages to its components alone, none beside its antimessage, and a copy of each message
pub record IsStub (s : System) (group : ℕ → ℕ) (g : ℕ) (stub : Stub) : Type 0 where
  pub inbox : Each (λ x. group x.message.to ≡ g) stub.inbox
  pub order : IsInOrder stub.inbox
  -- no message of it has its antimessage beside it
  pub apart : (j k : ℕ) (a : Named) → (times (machine s) (in_flight Plus j stub.inbox) k a ≡ 0) ⊎ (times (machine s) (in_flight Minus j stub.inbox) k a ≡ 0)
  pub copied : (j k : ℕ) (a : Named) → times (machine s) (in_flight Plus j stub.copies) k a ≡ times (machine s) (in_flight Plus j stub.inbox) k a

-- each stub is that of its group
abbrev pub AreStubs : System → (ℕ → ℕ) → List Stub → Type 0
AreStubs s group stubs = (g : ℕ) (stub : Stub) → slice_get stubs g ≡ Some stub → IsStub s group g stub

-- the turns of component i that are counted are those below a bound, and the key of the one after them is there
pub record IsPassage (s : System) (b i : ℕ) (p : Passage) : Type 0 where
  pub passed : p.passed ≡ (point (machine s) b).next i
  pub ahead : p.ahead ≡ key_of s i p.passed
  pub small : IfSome p.ahead (λ key. key.number < 4294967296)
  pub few : p.passed ≤ 4294967296

-- sound, with a partition of the components, a stub for each group, and of each component its turns, in the order of keys
pub record IsValidExchange {P : Type 0} (s : System) (e : ExchangeView P) : Type 0 where
  pub sound : IsSound (machine s) (group_at e.groups) (length s.composition) (exchange_of (machine s) e)
  pub partition : IsPartition (length s.composition) (length e.stubs) e.groups
  pub few : length e.stubs < 65536
  pub stubs : AreStubs s (group_at e.groups) e.stubs
  pub many : length e.passages ≡ length s.composition
  pub passages : (j : ℕ) (p : Passage) → slice_get e.passages j ≡ Some p → IsPassage s (rank_of_bound e.bound) j p
  pub lists : length e.held ≡ length s.composition
  pub order : AreInOrder e.held
  pub owners : AreOwned 0 e.held

-- messages wait in the inbox of the stub, if there is one
abbrev pub has_mail : Option Stub → Bool
has_mail None = false
has_mail (Some stub) = is_nonempty stub.inbox

-- the earlier of two bounds
abbrev pub earlier : Bound → Bound → Bound
earlier a b = if nat_lt (rank_of_bound a) (rank_of_bound b) then a else b

-- up to where nothing of the group can come any more
abbrev pub clear_until : Stub → Bound
clear_until stub = earlier stub.floor (least_of stub.inbox)

-- there is a key, and it is below a bound
abbrev pub is_ahead_below : ℕ → Option Key → Bool
is_ahead_below b None = false
is_ahead_below b (Some key) = nat_lt (rank key) b

-- the turns of component i below a bound, counted
abbrev pub passing : System → ℕ → ℕ → Passage → Passage
passing s b i p = record { passed = (point (machine s) b).next i; ahead = key_of s i ((point (machine s) b).next i) }

-- the turns of component i that are counted are below a bound, and the key of the one after them is there
pub record IsPassing (s : System) (b i : ℕ) (p : Passage) : Type 0 where
  pub ahead : p.ahead ≡ key_of s i p.passed
  pub small : IfSome p.ahead (λ key. key.number < 4294967296)
  pub few : p.passed ≤ 4294967296
  pub before : (n : ℕ) → n < p.passed → turn_rank s i n < b

-- of each component the turns below a bound are counted
abbrev pub HavePassed : System → Bound → List Passage → List Passage → Type 0
HavePassed s bound old new = (j : ℕ) → slice_get new j ≡ option_map (passing s (rank_of_bound bound) j) (slice_get old j)

-- each counts turns below a bound
abbrev pub ArePassing : System → Bound → List Passage → Type 0
ArePassing s bound passages = (j : ℕ) (p : Passage) → slice_get passages j ≡ Some p → IsPassing s (rank_of_bound bound) j p

abbrev pub is_end : Bound → Bool
is_end (At key) = false
is_end End = true

-- the base of the stub is the end
abbrev pub is_ended : Stub → Bool
is_ended stub = is_end stub.base
