-- States, joint steps and executions (Lynch, Distributed Algorithms, sections 8.1 and 8.2.1).
use Rattle.std.specs.Prelude.{◌≡◌, pos, ℕ, Bool as Truth, true, false, List, [], ◌∷◌, map, find, Option, None, Some}
use Rattle.terms.specs.Datum.{Datum}
use Rattle.terms.specs.Named.{Named}
use Rattle.terms.specs.Meaning.{Scope, value, truth, after, IsPart}
use Rattle.terms.specs.TermTree.{TermTree}
use Rattle.terms.specs.declared.scalar.Scalar.{Scalar}
use Rattle.terms.specs.declared.scalar.Scalar.TheVariants.{Int}
use Rattle.io_automata.specs.Automata.{Transition, Instance, component_at}
use Rattle.io_automata.specs.Signatures.{has, acts, controls}

-- formals and an action's arguments; no loop variable is set
abbrev pub scope_in : List Scalar → List Scalar → Scope
scope_in formals args = record { formals = formals; parameters = args; loops = Int (pos 0) ∷ Int (pos 0) ∷ Int (pos 0) ∷ [] }

-- the start state of component i: the start values see the formals alone
abbrev pub start_value : List Scalar → TermTree → Datum
start_value formals term = value term (scope_in formals []) []

abbrev pub start_of : List Instance → ℕ → List Datum
start_of composition i = map (start_value (component_at composition i).formals) (component_at composition i).start

-- the entry that stands for an action
abbrev pub entry_in : Instance → Named → Option Transition
entry_in component action = find (has component.formals action) component.entries

-- the precondition of an entry holds for these arguments
abbrev pub holds : Transition → List Scalar → List Datum → List Scalar → Truth
holds entry formals state args = truth (value entry.precondition (scope_in formals args) state)

-- and of the entry, if there is one
abbrev pub permitted : Option Transition → List Scalar → List Scalar → List Datum → Truth
permitted None formals args state = false
permitted (Some entry) formals args state = holds entry formals state args

-- the precondition of an action of component i holds in a state of it
abbrev pub is_enabled : List Instance → ℕ → Named → List Datum → Truth
is_enabled composition i action state = permitted (entry_in (component_at composition i) action) (component_at composition i).formals action.args state

abbrev changed : Option Transition → List Scalar → List Scalar → List Datum → List Datum
changed None formals args state = state
changed (Some entry) formals args state = after entry.effect (scope_in formals args) state

-- the state of component i after an action: its effect, or the same state where i doesn't have the action
abbrev pub applied : List Instance → ℕ → Named → List Datum → List Datum
applied composition i action state = changed (entry_in (component_at composition i) action) (component_at composition i).formals action.args state

abbrev IsPartOf : Option Transition → List Scalar → List Scalar → List Datum → List Datum → Type 0
IsPartOf None formals args state new = new ≡ state
IsPartOf (Some entry) formals args state new = IsPart entry.effect (scope_in formals args) state new

-- the new state is the old one with some first part of the assignments of an action done
abbrev pub IsPartApplied : List Instance → ℕ → Named → List Datum → List Datum → Type 0
IsPartApplied composition i action state new = IsPartOf (entry_in (component_at composition i) action) (component_at composition i).formals action.args state new

-- A joint step: some component has the action, whoever controls it has its precondition, each component that has it changes by its effect, and every other component's state stays.
pub record Joint (composition : List Instance) (old : ℕ → List Datum) (action : Named) (new : ℕ → List Datum) : Type 0 where
  pub actor : ℕ
  pub acting : acts composition actor action ≡ true
  pub enabled : (i : ℕ) → controls composition i action ≡ true → is_enabled composition i action (old i) ≡ true
  pub changes : (i : ℕ) → acts composition i action ≡ true → new i ≡ applied composition i action (old i)
  pub stays : (i : ℕ) → acts composition i action ≡ false → new i ≡ old i

-- joint steps with these actions, one after another, lead from a state of the composition to another
abbrev pub Leads : List Instance → (ℕ → List Datum) → List Named → (ℕ → List Datum) → Type 0
Leads composition old [] new = (i : ℕ) → new i ≡ old i
Leads composition old (action ∷ actions) new = (between : ℕ → List Datum) × Joint composition old action between × Leads composition between actions new

-- the actions are a schedule: those of an execution, in order
abbrev pub IsSchedule : List Instance → List Named → Type 0
IsSchedule composition actions = (new : ℕ → List Datum) × Leads composition (start_of composition) actions new
