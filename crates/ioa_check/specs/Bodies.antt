-- Parts of the body of an automaton.
use Rattle.std.specs.Prelude.{ℕ, ◌+◌, nat_lt, List, [], ◌∷◌, ◌++◌, length}
use Rattle.ioa_trees.specs.Trees.{Bytes, PlainAutomaton}
use Rattle.ioa_trees.specs.AutomatonRules.{body_faults, entry_names, formals_faults, inside, signature_at, tasks_faults, variables_faults}
use Rattle.ioa_trees.specs.EntryRules.{entries_faults, transitions_faults}
use Rattle.ioa_trees.specs.Faults.{Fault, where_wrong}
use Rattle.ioa_trees.specs.Scopes.{Scope, taken_before}
use Rattle.ioa_trees.specs.Sizes.{after_word, listed_size, row_size, task_size, transition_size, variable_size}
use Rattle.ioa_trees.specs.SourceRules.{with_automaton}

-- a word or a parenthesis, where something stands behind it
abbrev pub word : {A : Type 0} → List A → ℕ
word [] = 0
word (x ∷ xs) = 1

-- from its first token to the end of its signature
abbrev pub front_faults : Scope → ℕ → PlainAutomaton → List Fault
front_faults s at a =
    where_wrong (nat_lt 16 (length a.formals)) (at + 1) 17
    ++ (formals_faults s 0 (at + 3) a.formals
    ++ entries_faults (inside s a) [] a.transitions a.tasks (signature_at at a + 1) a.entries)

-- state variables with their word
abbrev pub states_size : PlainAutomaton → ℕ
states_size a = after_word (listed_size variable_size a.variables) a.variables

abbrev pub states_faults : Scope → ℕ → PlainAutomaton → List Fault
states_faults s at a = variables_faults s (entry_names a.entries) 0 (at + 1) a.variables

-- transitions and tasks with their words
abbrev pub actions_size : PlainAutomaton → ℕ
actions_size a = 1 + row_size transition_size a.transitions + after_word (row_size task_size a.tasks) a.tasks

abbrev pub actions_faults : Scope → ℕ → PlainAutomaton → List Fault
actions_faults s at a =
    transitions_faults s a.entries [] (at + 1) a.transitions
    ++ tasks_faults a.entries [] (at + 1 + row_size transition_size a.transitions + 1) a.tasks

-- one automaton, with its name
abbrev pub automaton_faults : Scope → List Bytes → ℕ → ℕ → PlainAutomaton → List Fault
automaton_faults s used n at a = taken_before s used (at + 1) a.name ++ body_faults (with_automaton s n a) at a
