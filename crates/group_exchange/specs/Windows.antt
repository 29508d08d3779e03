-- Windows of leases and of the exchange: how much is done and waits at most.
use Rattle.std.specs.Prelude.{◌≡◌, ℕ, ◌*◌, ◌≤◌, Some, IfSome, List, slice_get}
use Rattle.terms.specs.Datum.{Datum}
use Rattle.terms.specs.Named.{Named}
use Rattle.virtual_time.specs.Machine.{Machine}
use Rattle.virtual_time.specs.Exchange.Windows.{IsWithin}
use Rattle.virtual_time.specs.Groups.Leases.{Matches}
use Rattle.virtual_time.specs.Groups.Stubs.{Stub}
use Rattle.virtual_time.specs.Groups.Windows.{AreAmong, IsExchangeWithin, IsStubWithin, crossings, inboxes}
use Rattle.groups.specs.declared.window.Window.{Window}
use Rattle.groups.specs.GroupView.{AreMembers, GroupView, lease_of}
use Rattle.groups.specs.Windows.{OfEachRecord}
use Rattle.group_exchange.specs.ExchangeView.{ExchangeView, exchange_of, group_at}

module _ {P : Type 0} where
  -- where a lease has a window, and there are so many components: the record of each of its own has at most so many own turns done, and
  -- at most as many messages of each other component done or pending
  abbrev pub IsInWindow : ℕ → GroupView P → Type 0
  IsInWindow count v = IfSome v.window (λ window. OfEachRecord (IsWithin window.turns count) v.components)

  -- what a lease of this window has by its type: its components are in it, and it matches a stub that is
  pub record IsLeaseWithin (m : Machine (List Datum) Named) (count : ℕ) (v : GroupView P) (window : Window) : Type 0 where
    pub here : OfEachRecord (IsWithin window.turns count) v.components
    -- the groups of all components
    pub group : ℕ → ℕ
    pub members : AreMembers group v.number v.components
    pub among : AreAmong group count v.number
    pub stub : Stub Named
    pub match : Matches m group v.number stub (lease_of m v)
    pub within : IsStubWithin m group window.turns count v.number stub

  -- the same of a lease that has a window
  abbrev pub KeepsToWindow : Machine (List Datum) Named → ℕ → GroupView P → Type 0
  KeepsToWindow m count v = IfSome v.window (IsLeaseWithin m count v)

  -- each of these leases is such
  abbrev pub OfEachLease : (GroupView P → Type 0) → List (GroupView P) → Type 0
  OfEachLease Holds leases = (g : ℕ) (lease : GroupView P) → slice_get leases g ≡ Some lease → Holds lease

  -- where the exchange of so many components has a window, the stubs are in it, and no inbox has a message with its antimessage
  abbrev pub HasWindow : Machine (List Datum) Named → ℕ → ExchangeView P → Type 0
  HasWindow m count e = IfSome e.window (λ window. IsExchangeWithin m (group_at e.groups) window.turns count (exchange_of m e))

  -- and all inboxes together hold at most twice as many messages and antimessages as the window has turns, for each pair of components of
  -- two groups
  abbrev pub HasFewWaiting : Machine (List Datum) Named → ℕ → ExchangeView P → Type 0
  HasFewWaiting m count e =
      IfSome e.window (λ window. inboxes (exchange_of m e) count ≤ 2 * (window.turns * crossings (group_at e.groups) count count))
