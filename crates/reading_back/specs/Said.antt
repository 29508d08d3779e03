-- Actions that lines of turns say.
use Rattle.std.specs.Prelude.{ℕ}
use Rattle.terms.specs.Named.{Named}
use Rattle.event_keys.specs.declared.outcome.Outcome.TheVariants.{Did}
use Rattle.event_keys.specs.declared.outcome.Turned.{Turned}
use Rattle.plans.specs.declared.plan.Plan.{Plan}
use Rattle.plans.specs.Plans.{composition}
use Rattle.schedules.specs.Turns.{IsTaken}
use Rattle.trace.specs.WrittenTurns.{IsOutcome}

-- the turn's action, if it did one, is one of the plan's names with arguments of its types
abbrev pub IsSaid : Plan → Turned → Type 0
IsSaid plan turned = IsOutcome plan turned.outcome

-- so is each action that a turn of a component takes in some state
abbrev pub SaysAll : Plan → Type 0
SaysAll plan = (i : ℕ) (action : Named) → IsTaken (composition plan) i action
    → IsOutcome plan (Did action)
