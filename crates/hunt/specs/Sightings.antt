-- Where the action that is hunted for is done first.
use Rattle.std.specs.Prelude.{◌≡◌, ◌==◌, ℕ, Bool, true, false, List, [], ◌∷◌, ◌++◌, codes, decimal}
use Rattle.std.specs.List.{list_any}
use Rattle.terms.specs.Named.{Named}
use Rattle.event_keys.specs.declared.outcome.Outcome.{Outcome}
use Rattle.event_keys.specs.declared.outcome.Outcome.TheVariants.{Idle, Did}
use Rattle.event_keys.specs.declared.outcome.Turned.{Turned}
use Rattle.plans.specs.declared.plan.Plan.{Plan}
use Rattle.task_seed.specs.Machines.{same_action}
use Rattle.task_seed.specs.Turning.{System}
use Rattle.schedules.specs.Schedules.{AreAllTurns}
use Rattle.trace.specs.declared.lines.Lines.TheVariants.{All}
use Rattle.trace.specs.Lines.{text_of}
use Rattle.hunt.specs.declared.wanted.Wanted.{Wanted}
use Rattle.hunt.specs.declared.wanted.Wanted.TheVariants.{Name, Only}

-- whether the action is one of those that are wanted: all of a name, or one
abbrev pub does : Wanted → Named → Bool
does (Name number) action = action.name == number
does (Only wanted) action = same_action wanted action

-- whether such an action came of a turn
abbrev pub came : Wanted → Outcome → Bool
came wanted Idle = false
came wanted (Did action) = does wanted action

-- whether the turn did such an action
abbrev pub saw : Wanted → Turned → Bool
saw wanted turned = came wanted turned.outcome

-- the last of these turns did such an action, and none before it
pub record AreUpToFirst (wanted : Wanted) (turns : List Turned) : Type 0 where
  pub before : List Turned
  pub last : Turned
  pub are : turns ≡ before ++ last ∷ []
  pub seen : saw wanted last ≡ true
  pub unseen : list_any (saw wanted) before ≡ false

-- the first turns of the simulator that always takes the least key, up to the first that did it
pub record Occurs (plan : Plan) (s : System) (wanted : Wanted) (turns : List Turned)
    : Type 0 where
  pub all : List Turned
  pub are : AreAllTurns plan s all
  pub later : List Turned
  pub begin : all ≡ turns ++ later
  pub first : AreUpToFirst wanted turns

-- no turn of that simulator did it
pub record NeverOccurs (plan : Plan) (s : System) (wanted : Wanted) : Type 0 where
  pub all : List Turned
  pub are : AreAllTurns plan s all
  pub unseen : list_any (saw wanted) all ≡ false

-- the line of a seed, and the lines of turns
abbrev pub seed_text : ℕ → Plan → List Turned → List ℕ
seed_text seed plan turns = (codes "seed " ++ decimal seed ++ codes "\n") ++ text_of plan All turns

-- the text of a seed with those first turns
pub record IsShown (plan : Plan) (s : System) (wanted : Wanted) (seed : ℕ) (text : List ℕ)
    : Type 0 where
  pub turns : List Turned
  pub occurs : Occurs plan s wanted turns
  pub is : text ≡ seed_text seed plan turns
