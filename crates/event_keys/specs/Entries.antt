-- What an entry is compared by.
use Rattle.std.specs.Prelude.{ℕ, ◌+◌, Option, None, Some}
use Rattle.std.specs.declared.cmp.Ordering.{Ordering}
use Rattle.std.specs.Ordering.{nat_cmp, on, then_cmp}
use Rattle.terms.specs.Named.{Named}
use Rattle.event_keys.specs.declared.key.Key.{Key}
use Rattle.event_keys.specs.declared.outcome.Outcome.{Outcome}
use Rattle.event_keys.specs.declared.outcome.Outcome.TheVariants.{Idle, Did}
use Rattle.event_keys.specs.declared.entry.Entry.{Entry}
use Rattle.event_keys.specs.declared.entry.Entry.TheVariants.{Own, Input}

-- the key of an own turn, or of the turn that sent an input
abbrev pub entry_key : Entry → Key
entry_key (Own turned) = turned.key
entry_key (Input message) = message.key

-- an own turn's outcome; an input's action
abbrev pub entry_outcome : Entry → Outcome
entry_outcome (Own turned) = turned.outcome
entry_outcome (Input message) = Did message.action

-- an own turn stands before any input, and inputs stand by their receivers
abbrev pub entry_place : Entry → ℕ
entry_place (Own turned) = 0
entry_place (Input message) = message.to + 1

-- entries are compared by key, then outcome, then place
abbrev pub entry_cmp : (Key → Key → Ordering) → (Outcome → Outcome → Ordering) → Entry → Entry → Ordering
entry_cmp compared_keys compared_outcomes = then_cmp (on entry_key compared_keys) (then_cmp (on entry_outcome compared_outcomes) (on entry_place nat_cmp))

-- the action that was taken, if one was
abbrev pub action_of : Outcome → Option Named
action_of Idle = None
action_of (Did action) = Some action
