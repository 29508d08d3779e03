-- Turns that were taken, as the theory has them.
use Rattle.std.specs.Prelude.{List, Option, None, Some, map, reverse}
use Rattle.terms.specs.Named.{Named}
use Rattle.event_keys.specs.declared.key.Key.{Key}
use Rattle.event_keys.specs.declared.outcome.Outcome.{Outcome}
use Rattle.event_keys.specs.declared.outcome.Outcome.TheVariants.{Idle, Did}
use Rattle.event_keys.specs.declared.outcome.Turned.{Turned}
use Rattle.event_keys.specs.Entries.{action_of}
use Rattle.event_keys.specs.Ranks.{rank}
use Rattle.virtual_time.specs.Reference.{Turn}

-- a turn of the code as one of the theory
abbrev pub turn_of : Turned → Turn Named
turn_of turned = record { key = rank turned.key; outcome = action_of turned.outcome }

-- turns in the order of their keys as the theory has them, the last one first
abbrev pub turns_of : List Turned → List (Turn Named)
turns_of turns = reverse (map turn_of turns)

-- what came of a turn that took this action, or none
abbrev pub outcome_of : Option Named → Outcome
outcome_of None = Idle
outcome_of (Some action) = Did action

-- the turn of a key that took this action, or none
abbrev pub turned_of : Option Named → Key → Turned
turned_of found key = record { key = key; outcome = outcome_of found }
