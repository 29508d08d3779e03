-- Turns that are drawn and not taken yet.
use Rattle.std.specs.Prelude.{◌≡◌, Option, Some, List, [], ◌∷◌}
use Rattle.event_keys.specs.declared.key.Key.{Key}
use Rattle.task_seed.specs.Turning.{System}
use Rattle.reference.specs.declared.agenda.Due.{Due}
use Rattle.reference.specs.Agendas.{IsDue}
use Rattle.lone_group.specs.declared.drawn.Drawn.{Drawn}

-- the key of the first of these, or the one behind them where there is none
abbrev pub first_of : List Due → Option Key → Option Key
first_of [] next = next
first_of (due ∷ later) next = Some due.key

-- the reference takes these turns, one after another, whatever comes of them, and then the one with the next key
abbrev pub AreNext : System → List Due → Option Key → Type 0
AreNext s [] next = Unit {0}
AreNext s (due ∷ later) next = IsDue s due (first_of later next) × AreNext s later next

-- the same of turns on their way, which begin where they say
pub record IsDrawn (s : System) (drawn : Drawn) : Type 0 where
  pub from : drawn.from ≡ first_of drawn.due.items drawn.next
  pub due : AreNext s drawn.due.items drawn.next
