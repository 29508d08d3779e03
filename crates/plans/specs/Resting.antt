-- Tasks that have nothing enabled.
use Rattle.std.specs.Prelude.{◌≡◌, ℕ, Bool as Truth, true, false, List, [], Option, None, Some, slice_get}
use Rattle.terms.specs.Datum.{Datum}
use Rattle.plans.specs.declared.resting.Resting.{Resting}
use Rattle.io_automata.specs.Automata.{Instance}
use Rattle.io_automata.specs.Outcomes.{enabled_of}

-- what was noted of a task; of one that has no place nothing was
abbrev pub noted : Option Truth → Truth
noted None = false
noted (Some note) = note

-- whether a task is noted
abbrev pub rests : Resting → ℕ → Truth
rests resting task = noted (slice_get resting.tasks task)

-- each task that is noted has nothing enabled in this state of component i
abbrev pub IsResting : List Instance → ℕ → List Datum → Resting → Type 0
IsResting composition i state resting = (task : ℕ) → rests resting task ≡ true → enabled_of composition i task state ≡ []
