-- When two components are equal.
use Rattle.std.specs.Prelude.{◌≡◌, ◌==◌, ◌&&◌, Bool, true, false, Option, None, Some, List}
use Rattle.std.specs.Cmp.Lexicographic.{pointwise}
use Rattle.terms.specs.Datum.{Datum}
use Rattle.terms.specs.Named.{Named}
use Rattle.event_keys.specs.contracts.key.BoundPartialEq.TheImpl as bound_eq
use Rattle.undo_records.specs.First.{same_state}
use Rattle.virtual_time.specs.Entries.{Entry, Own, Input as Received, Item}
use Rattle.virtual_time.specs.Records.{Record}
use Rattle.task_seed.specs.Machines.{same_action}
use Rattle.rollback.specs.ComponentView.{ComponentView}

-- both idle, or the same action
abbrev pub same_outcome : Option Named → Option Named → Bool
same_outcome None None = true
same_outcome None (Some b) = false
same_outcome (Some a) None = false
same_outcome (Some a) (Some b) = same_action a b

-- messages with the same rank and the same action
abbrev pub same_item : Item Named → Item Named → Bool
same_item x y = (x.key == y.key) && same_action x.action y.action

-- both own turns or both inputs, with the same rank, and with the same outcome or action
abbrev pub same_entry : Entry Named → Entry Named → Bool
same_entry (Own k o) (Own l p) = (k == l) && same_outcome o p
same_entry (Own k o) (Received y) = false
same_entry (Received x) (Own l p) = false
same_entry (Received x) (Received y) = same_item x y

-- equal setups, and the same number, bound and state of the base, and number of the first turn
abbrev pub same_base : {P : Type 0} → (P → P → Bool) → ComponentView P → ComponentView P → Bool
same_base eq a b = eq a.setup b.setup && ((a.number == b.number) && (bound_eq.ghosts.eq a.base b.base && ((a.history.first == b.history.first) && same_state a.history.base b.history.base)))

-- the same done entries, pending inputs and owed antimessages
abbrev pub same_events : Record (List Datum) Named → Record (List Datum) Named → Bool
same_events r q = pointwise same_entry r.done q.done && (pointwise same_item r.pending q.pending && pointwise same_item r.owed q.owed)

-- components are equal where both hold
abbrev pub same_held : {P : Type 0} → (P → P → Bool) → ComponentView P → ComponentView P → Bool
same_held eq a b = same_base eq a b && same_events a.history b.history

-- what equality tells: equal setups, and the same number, base and record
abbrev pub HaveEqualParts : {P : Type 0} → (P → P → Bool) → ComponentView P → ComponentView P → Type 0
HaveEqualParts eq a b = (eq a.setup b.setup ≡ true) × (a.number ≡ b.number) × (a.base ≡ b.base) × (a.history ≡ b.history)
