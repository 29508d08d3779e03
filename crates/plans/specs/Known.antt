-- What is known of the entries of all automata before the first turn, and a task of a component.
use Rattle.std.specs.Prelude.{◌≡◌, ◌<◌, ℕ, List, map, slice_get, Option, None, Some}
use Rattle.io_automata.specs.Automata.{Instance, Transition, component_at, transition_of}
use Rattle.io_automata.specs.Outcomes.{task_of}
use Rattle.io_automata.specs.declared.automaton.Automaton.{Automaton}
use Rattle.outcomes.specs.Tasks.{IsKnown, IsTask, entries_of}
use Rattle.outcomes.specs.declared.task.Known.{Known}
use Rattle.outcomes.specs.declared.task.Task.{Task}

abbrev pub IsKnownBy : List Transition → Option Known → Type 0
IsKnownBy entries None = ⊥
IsKnownBy entries (Some known) = IsKnown entries known

-- beside each automaton stands what is known of its entries
abbrev pub AreKnown : List Automaton → List Known → Type 0
AreKnown automata known = (k : ℕ) (automaton : Automaton) → slice_get automata k ≡ Some automaton → IsKnownBy (map transition_of automaton.entries.items) (slice_get known k)

-- and beside each of the first n, as far as there are any
abbrev pub AreKnownTo : ℕ → List Automaton → List Known → Type 0
AreKnownTo n automata known = (k : ℕ) (automaton : Automaton) → k < n → slice_get automata k ≡ Some automaton → IsKnownBy (map transition_of automaton.entries.items) (slice_get known k)

-- a task is that of this number of component i
pub record IsTaskOf (composition : List Instance) (i number : ℕ) (task : Task) : Type 0 where
  pub known : IsTask task
  pub entries : (component_at composition i).entries ≡ entries_of task
  pub formals : (component_at composition i).formals ≡ task.formals.now
  pub places : task_of composition i number ≡ task.places.now
