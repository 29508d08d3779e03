-- A task of a component, what is known of the entries of its automaton, and what was found of it.
use Rattle.std.specs.Prelude.{◌≡◌, ℕ, ◌+◌, ◌<◌, List, [], map, length, get_or, slice_get, Option, None, Some}
use Rattle.std.specs.List.{flat_map, range_with_len}
use Rattle.conditions.specs.Conditions.{IsSolved}
use Rattle.conditions.specs.declared.condition.Condition.{Condition}
use Rattle.io_automata.specs.Automata.{Transition, transition_of}
use Rattle.io_automata.specs.Outcomes.{named}
use Rattle.io_automata.specs.Tuples.{many, tuple_at, enabled_in}
use Rattle.outcomes.specs.Alike.{alike, number_or_none, AreFirsts}
use Rattle.outcomes.specs.Solving.{AreComplete}
use Rattle.outcomes.specs.declared.spans.Found.{Found}
use Rattle.outcomes.specs.declared.spans.Span.{Span}
use Rattle.outcomes.specs.declared.task.Known.{Known}
use Rattle.outcomes.specs.declared.task.Task.{Task}
use Rattle.terms.specs.Datum.{Datum}
use Rattle.terms.specs.Named.{Named}
use Rattle.terms.specs.declared.scalar.Scalar.{Scalar}

abbrev pub IsSolvedBy : Transition → Option Condition → Type 0
IsSolvedBy entry None = ⊥
IsSolvedBy entry (Some condition) = IsSolved entry.precondition condition

-- the preconditions of entries solved, by their places
abbrev pub AreSolved : List Transition → List Condition → Type 0
AreSolved entries conditions = (place : ℕ) (entry : Transition) → slice_get entries place ≡ Some entry → IsSolvedBy entry (slice_get conditions place)

-- what is known of entries before the first turn
pub record IsKnown (entries : List Transition) (known : Known) : Type 0 where
  pub told : known.numbers.items ≡ map alike entries
  pub repeated : AreFirsts entries known.firsts.items
  pub solved : AreSolved entries known.conditions.items

abbrev pub entries_of : Task → List Transition
entries_of task = map transition_of task.entries.now

-- what is known is known of the task's entries, and their listed types have all their members
pub record IsTask (task : Task) : Type 0 where
  pub known : IsKnown (entries_of task) task.known.now
  pub complete : (place : ℕ) (entry : Transition) → slice_get (entries_of task) place ≡ Some entry → AreComplete entry.params

-- the enabled actions of a task, in order
abbrev pub enabled_of_task : Task → List Datum → List Named
enabled_of_task task state = flat_map (enabled_in task.entries.now task.formals.now state) task.places.now

abbrev pub made_by : List Scalar → Option Transition → ℕ → ℕ → List Named
made_by formals None from count = []
made_by formals (Some entry) from count = map (λ at. named entry.name (tuple_at formals entry.params at)) (range_with_len from count)

-- the actions of what was found
abbrev pub made_of : Task → Found → List Named
made_of task found = made_by task.formals.now (slice_get (entries_of task) found.place) found.from found.count

-- a span of the entry at a place
abbrev pub placed : ℕ → Span → Found
placed place span = record { place = place; from = span.from; count = span.count }

-- an entry stands there, and has these tuples
pub record IsFoundAmong (entries : List Transition) (found : Found) : Type 0 where
  pub entry : Transition
  pub there : slice_get entries found.place ≡ Some entry
  pub few : (j : ℕ) → j < found.count → found.from + j < many entry.params

abbrev pub AreFoundAmong : List Transition → List Found → Type 0
AreFoundAmong entries founds = (k : ℕ) (found : Found) → slice_get founds k ≡ Some found → IsFoundAmong entries found

abbrev pub IsFound : Task → Found → Type 0
IsFound task found = IsFoundAmong (entries_of task) found

abbrev pub AreFound : Task → List Found → Type 0
AreFound task founds = AreFoundAmong (entries_of task) founds

-- no condition of the task's entries mentions a parameter, by their numbers
abbrev pub AreAlike : Task → Type 0
AreAlike task = (k : ℕ) → k < length task.places.now → 0 < number_or_none (slice_get task.known.now.numbers.items (get_or task.places.now k 0))
