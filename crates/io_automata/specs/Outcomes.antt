-- The enabled actions of a task, and the outcome of a turn.
use Rattle.std.specs.Prelude.{ℕ, ◌%◌, List, [], ◌∷◌, map, filter, length, Option, None, Some, slice_get, get_or}
use Rattle.std.specs.List.{flat_map}
use Rattle.terms.specs.Datum.{Datum}
use Rattle.terms.specs.Named.{Named}
use Rattle.terms.specs.Meaning.{slot}
use Rattle.terms.specs.Shapes.{members}
use Rattle.terms.specs.declared.scalar.Scalar.{Scalar}
use Rattle.io_automata.specs.declared.automaton.Param.{Param}
use Rattle.io_automata.specs.declared.automaton.Param.TheVariants.{Const, Member, Between, Whole}
use Rattle.io_automata.specs.Automata.{Transition, Instance, component_at}
use Rattle.io_automata.specs.Steps.{holds}

abbrev pub named : ℕ → List Scalar → Named
named name args = record { name = name; args = args }

-- the tuples of arguments for a list of parameters: in the order of the types, the first free parameter changing slowest
abbrev pub tuples : List Scalar → List Param → List (List Scalar)
tuples formals [] = [] ∷ []
tuples formals (Const n ∷ params) = map (λ args. slot formals n ∷ args) (tuples formals params)
tuples formals (Member listed ∷ params) = flat_map (λ member. map (λ args. member ∷ args) (tuples formals params)) (members listed)
tuples formals (Between low high ∷ params) = []
tuples formals (Whole ∷ params) = []

-- the enabled actions that an entry stands for
abbrev pub enabled_by : List Scalar → List Datum → Option Transition → List Named
enabled_by formals state None = []
enabled_by formals state (Some entry) = map (named entry.name) (filter (holds entry formals state) (tuples formals entry.params))

-- the places of a task's entries; an automaton without that task has none
abbrev pub task_of : List Instance → ℕ → ℕ → List ℕ
task_of composition i task = get_or (component_at composition i).tasks task []

-- the enabled actions of a task of component i: by the entries in the task's order, and then by the tuples
abbrev pub enabled_at : List Instance → ℕ → List Datum → ℕ → List Named
enabled_at composition i state place = enabled_by (component_at composition i).formals state (slice_get (component_at composition i).entries place)

abbrev pub enabled_of : List Instance → ℕ → ℕ → List Datum → List Named
enabled_of composition i task state = flat_map (enabled_at composition i state) (task_of composition i task)

-- the outcome of a turn: the enabled action at choice modulo their number, or none (idle) where none is enabled
abbrev pub outcome_of : List Instance → ℕ → ℕ → ℕ → List Datum → Option Named
outcome_of composition i task choice state = slice_get (enabled_of composition i task state) (choice % length (enabled_of composition i task state))

-- how many tasks component i has
abbrev pub task_count : List Instance → ℕ → ℕ
task_count composition i = length (component_at composition i).tasks
