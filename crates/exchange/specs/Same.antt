-- When two leases are equal, and when two exchanges are.
use Rattle.std.specs.Prelude.{◌≡◌, ◌==◌, ◌&&◌, Bool, true, None, List, [], map}
use Rattle.std.specs.Cmp.Lexicographic.{pointwise}
use Rattle.event_keys.specs.contracts.key.BoundPartialEq.TheImpl as bound_eq
use Rattle.event_keys.specs.contracts.outcome.TurnedPartialEq.TheImpl as turned_eq
use Rattle.event_keys.specs.declared.message.Signed.{Signed}
use Rattle.event_keys.specs.declared.outcome.Turned.{Turned}
use Rattle.antimessage.specs.Counts.{is_same}
use Rattle.rollback.specs.ComponentView.{ComponentView}
use Rattle.exchange.specs.declared.stub.Stub.{Stub}
use Rattle.exchange.specs.LeaseView.{LeaseView}
use Rattle.exchange.specs.ExchangeView.{ExchangeView}
use Rattle.exchange.specs.Windows.{same_window}

-- the same signed messages, each as often
abbrev pub same_bag : List Signed → List Signed → Bool
same_bag = pointwise is_same

-- leases are equal where their components are, with the same tray, outgoing messages, floor and window
abbrev pub same_lease : {P : Type 0} → (ComponentView P → ComponentView P → Bool) → LeaseView P → LeaseView P → Bool
same_lease eq a b = eq a.component b.component && (same_bag a.tray b.tray && (same_bag a.out b.out && (bound_eq.ghosts.eq a.floor b.floor && same_window a.window b.window)))

-- stubs are equal with the same base and floor, and the same taken messages, standing sends and inbox
abbrev pub same_place : Stub → Stub → Bool
same_place a b = bound_eq.ghosts.eq a.base b.base && bound_eq.ghosts.eq a.floor b.floor

abbrev pub same_messages : Stub → Stub → Bool
same_messages a b = same_bag a.taken b.taken && (same_bag a.standing b.standing && same_bag a.inbox b.inbox)

abbrev pub same_stub : Stub → Stub → Bool
same_stub a b = same_place a b && same_messages a b

-- what is compared of a stub: all but the copies of the inbox's messages and the turns that are counted
abbrev pub compared : Stub → Stub
compared stub = record stub { copies = []; passed = 0; ahead = None }

-- equal setups and windows, the same bound, and as many turns given
abbrev pub same_progress : {P : Type 0} → (P → P → Bool) → ExchangeView P → ExchangeView P → Bool
same_progress eq a b = (eq a.setup b.setup && same_window a.window b.window) && (bound_eq.ghosts.eq a.bound b.bound && (a.given == b.given))

-- the same turns
abbrev pub same_turns : List Turned → List Turned → Bool
same_turns = pointwise turned_eq.ghosts.eq

-- exchanges are equal where these are so, with the same turns held of each component, and stubs that are equal one by one
abbrev pub same_exchange : {P : Type 0} → (P → P → Bool) → ExchangeView P → ExchangeView P → Bool
same_exchange eq a b = same_progress eq a b && (pointwise same_turns a.held b.held && pointwise same_stub a.stubs b.stubs)

-- what equality tells of leases: equal components, and the same tray, outgoing messages, floor and window
abbrev pub AreEqualLeases : {P : Type 0} → (ComponentView P → ComponentView P → Bool) → LeaseView P → LeaseView P → Type 0
AreEqualLeases eq a b = (eq a.component b.component ≡ true) × (a.tray ≡ b.tray) × (a.out ≡ b.out) × (a.floor ≡ b.floor) × (a.window ≡ b.window)

-- and of exchanges: equal setups, and the same window, bound, turns held, number given, and what is compared of the stubs
abbrev pub AreEqualExchanges : {P : Type 0} → (P → P → Bool) → ExchangeView P → ExchangeView P → Type 0
AreEqualExchanges eq a b = (eq a.setup b.setup ≡ true) × (a.window ≡ b.window) × (a.bound ≡ b.bound) × (a.held ≡ b.held) × (a.given ≡ b.given) × (map compared a.stubs ≡ map compared b.stubs)
