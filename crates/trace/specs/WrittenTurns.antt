-- Turns whose lines are read back.
use Rattle.std.specs.Prelude.{List, [], ◌∷◌, flat_map, filter}
use Rattle.terms.specs.Named.{Named}
use Rattle.event_keys.specs.declared.outcome.Outcome.{Outcome}
use Rattle.event_keys.specs.declared.outcome.Outcome.TheVariants.{Idle, Did}
use Rattle.event_keys.specs.declared.outcome.Turned.{Turned}
use Rattle.plans.specs.declared.plan.Plan.{Plan}
use Rattle.plans.specs.Plans.{action_texts}
use Rattle.trace.specs.declared.lines.Lines.{Lines}
use Rattle.trace.specs.Lines.{is_shown, name_at}
use Rattle.trace.specs.Written.{Written, IsWritten, IsKnown, IsKey}

-- an action, as it is written
abbrev pub written_of : Plan → Named → Written
written_of plan action = record { name = name_at (action_texts plan) action.name; args = action.args }

-- the actions that an outcome has
abbrev pub actions_of : Outcome → List Named
actions_of Idle = []
actions_of (Did action) = action ∷ []

-- an outcome has an action of the composition, or none
abbrev pub IsOutcome : Plan → Outcome → Type 0
IsOutcome plan Idle = Unit {0}
IsOutcome plan (Did action) = IsWritten plan (written_of plan action) × IsKnown plan (written_of plan action) action

-- the turn's key has numbers of 64 bits, and its outcome is one of the composition
pub record IsTurn (plan : Plan) (turned : Turned) : Type 0 where
  pub key : IsKey turned.key
  pub outcome : IsOutcome plan turned.outcome

-- the actions that turns have, in order
abbrev pub actions_done : List Turned → List Named
actions_done turns = flat_map (λ turned. actions_of turned.outcome) turns

-- those of the turns that are written
abbrev pub shown_turns : Plan → Lines → List Turned → List Turned
shown_turns plan lines turns = filter (λ turned. is_shown plan lines turned.outcome) turns
