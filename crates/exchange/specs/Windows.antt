-- Windows of leases and of the exchange: how much is done and waits at most.
use Rattle.std.specs.Prelude.{ℕ, ◌*◌, ◌-◌, ◌≤◌, ◌==◌, Bool, true, false, List, Option, None, Some, IfSome}
use Rattle.terms.specs.Datum.{Datum}
use Rattle.terms.specs.Named.{Named}
use Rattle.virtual_time.specs.Machine.{Machine}
use Rattle.virtual_time.specs.Exchange.Leases.{Matches}
use Rattle.virtual_time.specs.Exchange.Stubs.{Stub}
use Rattle.virtual_time.specs.Exchange.Windows.{IsExchangeWithin, IsStubWithin, IsWithin, inboxes}
use Rattle.exchange.specs.declared.window.Window.{Window}
use Rattle.exchange.specs.LeaseView.{LeaseView, lease_of}
use Rattle.exchange.specs.ExchangeView.{ExchangeView, exchange_of}

-- both have the same window, or neither has one
abbrev pub same_window : Option Window → Option Window → Bool
same_window None None = true
same_window None (Some b) = false
same_window (Some a) None = false
same_window (Some a) (Some b) = a.turns == b.turns

module _ {P : Type 0} where
  -- where a lease of so many components has a window, its record has at most so many own turns done, and at most as many messages of
  -- each other component done or pending
  abbrev pub IsInWindow : ℕ → LeaseView P → Type 0
  IsInWindow count h = IfSome h.window (λ window. IsWithin window.turns count h.component.history)

  -- whoever is in its window before is so afterwards
  pub record KeepsWindow (old new : LeaseView P) : Type 0 where
    pub keeps : (count : ℕ) → IsInWindow count old → IsInWindow count new

  -- what a lease of this window has by its type: it is in it, and matches a stub that is
  pub record IsLeaseWithin (m : Machine (List Datum) Named) (count : ℕ) (h : LeaseView P) (window : Window) : Type 0 where
    pub here : IsWithin window.turns count h.component.history
    pub stub : Stub Named
    pub match : Matches m h.component.number stub (lease_of h)
    pub within : IsStubWithin m window.turns count h.component.number stub

  -- the same of a lease that has a window
  abbrev pub KeepsToWindow : Machine (List Datum) Named → ℕ → LeaseView P → Type 0
  KeepsToWindow m count h = IfSome h.window (IsLeaseWithin m count h)

  -- where the exchange of so many components has a window, the stubs are in it, and no inbox has a message with its antimessage
  abbrev pub HasWindow : Machine (List Datum) Named → ℕ → ExchangeView P → Type 0
  HasWindow m count e = IfSome e.window (λ window. IsExchangeWithin m window.turns count (exchange_of m e))

  -- and all inboxes together hold at most twice as many messages and antimessages as the window has turns, for each pair of components
  abbrev pub HasFewWaiting : Machine (List Datum) Named → ℕ → ExchangeView P → Type 0
  HasFewWaiting m count e =
      IfSome e.window (λ window. inboxes (exchange_of m e) count ≤ 2 * (window.turns * (count - 1)) * count)
