-- Turns of the plan are turns whose lines are read back.
use Rattle.std.proofs.Common.{List, [], ◌∷◌}
use Rattle.std.specs.List.{AllByRecursion}
use Rattle.event_keys.specs.declared.outcome.Turned.{Turned}
use Rattle.plans.specs.declared.plan.Plan.{Plan}
use Rattle.trace.specs.OrderedFile.{IsTurnOf}
use Rattle.trace.specs.WrittenTurns.{IsTurn}

pub only_turns : (plan : Plan) (turns : List Turned) → AllByRecursion (IsTurnOf plan) turns → AllByRecursion (IsTurn plan) turns
only_turns plan [] all = tt
only_turns plan (turned ∷ turns) all = (record { key = all.0.key.numbers; outcome = all.0.outcome }, only_turns plan turns all.1)
