-- What each turn of the simulator is.
use Rattle.std.specs.Prelude.{◌≡◌, ℕ, ◌<◌, Some, List, length}
use Rattle.terms.specs.Datum.{Datum}
use Rattle.terms.specs.Named.{Named}
use Rattle.event_keys.specs.declared.outcome.Turned.{Turned}
use Rattle.event_keys.specs.Entries.{action_of}
use Rattle.io_automata.specs.Automata.{Instance}
use Rattle.io_automata.specs.Outcomes.{outcome_of}
use Rattle.schedules.specs.Schedules.{KeyFits}

-- some turn of component i takes the action in some state
pub record IsTaken (composition : List Instance) (i : ℕ) (action : Named) : Type 0 where
  pub task : ℕ
  pub choice : ℕ
  pub state : List Datum
  pub is : outcome_of composition i task choice state ≡ Some action

-- the numbers of the turn's key fit their types, its component exists, and its action, if it did one, is one that a turn of the component takes
pub record IsOwnTurn (composition : List Instance) (turned : Turned) : Type 0 where
  pub fits : KeyFits turned.key
  pub exists : turned.key.component < length composition
  pub taken : (action : Named) → action_of turned.outcome ≡ Some action
      → IsTaken composition turned.key.component action
