-- When a lease is one of an exchange, and what its components are compared with.
use Rattle.std.specs.Prelude.{◌≡◌, ℕ, ◌+◌, ◌<◌, ◌==◌, ◌&&◌, ◌↔◌, Bool, true, false, cond, Option, None, Some, List, [], ◌∷◌}
use Rattle.terms.specs.Datum.{Datum}
use Rattle.terms.specs.Named.{Named}
use Rattle.event_keys.specs.declared.message.Sign.TheVariants.{Plus}
use Rattle.event_keys.specs.declared.message.Signed.{Signed}
use Rattle.virtual_time.specs.Entries.{Item}
use Rattle.virtual_time.specs.Groups.Leases.{Matches}
use Rattle.virtual_time.specs.Machine.{Machine}
use Rattle.virtual_time.specs.Records.{sent_all}
use Rattle.task_seed.specs.declared.setup.Setup.{Setup}
use Rattle.task_seed.specs.declared.turns.Turn.{Turn}
use Rattle.task_seed.specs.Turning.{System}
use Rattle.rollback.specs.ComponentView.{ComponentView, machine_of}
use Rattle.rollback.specs.Matched.{IsStanding, IsTaken}
use Rattle.groups.specs.GroupView.{AreMembers, GroupView, is_member, lease_of}
use Rattle.groups.specs.declared.window.Window.{Window}
use Rattle.group_exchange.specs.declared.stub.Stub.{Stub}
use Rattle.group_exchange.specs.ExchangeView.{ExchangeView, group_at, stub_of}
use Rattle.group_exchange.specs.Moving.{among}

-- both have the same window, or neither has one
abbrev pub same_window : Option Window → Option Window → Bool
same_window None None = true
same_window None (Some b) = false
same_window (Some a) None = false
same_window (Some a) (Some b) = a.turns == b.turns

module _ {P : Type 0} where
  -- the lease's setup and window are the exchange's
  abbrev pub is_own : (P → P → Bool) → ExchangeView P → GroupView P → Bool
  is_own eq e lease = eq e.setup lease.setup && same_window e.window lease.window

  -- by a list of groups each of these components is in this one
  abbrev pub AllIn : List ℕ → ℕ → List (ComponentView P) → Type 0
  AllIn groups number cs = (j : ℕ) → is_member cs j ≡ true → group_at groups j ≡ number

  -- and of the first components those that are in this one are among these
  abbrev pub HasAll : List ℕ → ℕ → List (ComponentView P) → ℕ → Type 0
  HasAll groups number cs count = (j : ℕ) → j < count → group_at groups j ≡ number → is_member cs j ≡ true

  -- of some messages those that go to these components
  abbrev pub AreInside : List (ComponentView P) → List Signed → List Signed → Type 0
  AreInside cs all inside = (s : System) (j k : ℕ) (a : Named) → among s Plus j inside k a ≡ cond (is_member cs j) (among s Plus j all k a) 0

  -- the answer tells whether a group matches a stub, whatever the groups of other components
  abbrev pub TellsMatch : Machine (List Datum) Named → Stub → GroupView P → Bool → Type 0
  TellsMatch m stub v answer = (group : ℕ → ℕ) → AreMembers group v.number v.components → (answer ≡ true) ↔ Matches m group v.number (stub_of m stub) (lease_of m v)

-- the messages of two bags together
abbrev pub AreTogether : List Signed → List Signed → List Signed → Type 0
AreTogether one other both = (s : System) (j k : ℕ) (a : Named) → among s Plus j both k a ≡ among s Plus j one k a + among s Plus j other k a

module _ {T : Type 0} (turn_of : T → ℕ → ℕ → Option Turn) where
  -- what is in flight to component j, with all that is sent by what these components have done
  abbrev pub all_sent : List (ComponentView (Setup T)) → ℕ → List (Item Named) → List (Item Named)
  all_sent [] j xs = xs
  all_sent (c ∷ cs) j xs = all_sent cs j (sent_all (machine_of turn_of c.setup) c.number c.history.done j xs)

  -- each of these components has taken these messages, where those in the tray are not delivered yet, and has sent those, where its signed
  -- messages in `out` have not left yet
  abbrev pub AreMatched : List (ComponentView (Setup T)) → (taken standing tray out : List Signed) → Type 0
  AreMatched [] taken standing tray out = Unit {0}
  AreMatched (c ∷ cs) taken standing tray out =
      IsTaken (machine_of turn_of c.setup) c.number c.history taken tray
      × IsStanding (machine_of turn_of c.setup) c.number c.history standing out
      × AreMatched cs taken standing tray out
