-- What the growths of a step make of the parts of a component.
use Rattle.std.specs.Prelude.{ℕ, List, [], ◌∷◌}
use Rattle.terms.specs.Datum.{Datum}
use Rattle.terms.specs.Named.{Named}
use Rattle.event_keys.specs.declared.message.Sign.TheVariants.{Plus, Minus}
use Rattle.event_keys.specs.declared.message.Signed.{Signed}
use Rattle.event_keys.specs.declared.outcome.Turned.{Turned}
use Rattle.event_keys.specs.Entries.{action_of}
use Rattle.event_keys.specs.Ranks.{rank}
use Rattle.raw_events.specs.Around.{Around}
use Rattle.undo_records.specs.States.{States}
use Rattle.io_automata.specs.Steps.{applied}
use Rattle.plans.specs.Plans.{composition}
use Rattle.plans.specs.declared.plan.Plan.{Plan}
use Rattle.virtual_time.specs.Entries.{by_own}
use Rattle.virtual_time.specs.Machine.{Machine}
use Rattle.virtual_time.specs.Records.{sent}
use Rattle.task_seed.specs.Turning.{System}
use Rattle.message_balance.specs.declared.done.Done.{Done}
use Rattle.message_balance.specs.declared.done.Done.TheVariants.{Turn}
use Rattle.rollback.specs.ComponentInvariant.{signed_of}
use Rattle.rollback.specs.Post.{IsPosted}

-- the states after a mark and a change to this one
abbrev pub marked_as : List Datum → States → States
marked_as state old = record { current = state; below = old.current ∷ old.below }

-- the same, by an action, by what came of a turn, and by an input
abbrev pub after_action : Plan → ℕ → Named → States → States
after_action plan i action old = marked_as (applied (composition plan) i action old.current) old

abbrev pub after_turn : Machine (List Datum) Named → ℕ → Turned → States → States
after_turn m i turned old = marked_as (by_own m i (action_of turned.outcome) old.current) old

abbrev pub after_input : Plan → ℕ → Signed → States → States
after_input plan i first = after_action plan i first.message.action

-- the done entries with a further one
abbrev pub with_done : Done → Around Done → Around Done
with_done entry done = record done { before = entry ∷ done.before }

-- a turn as a done entry, with its antimessages
abbrev pub done_turn : System → ℕ → Turned → Done
done_turn s i turned = Turn turned (record { before = signed_of s Minus i turned.key turned.outcome; after = [] })

-- a bag gained what a turn sends
abbrev pub IsTurnSent : Machine (List Datum) Named → ℕ → Turned → List Signed → List Signed → Type 0
IsTurnSent m i turned = IsPosted Plus (sent m i (rank turned.key) (action_of turned.outcome))
