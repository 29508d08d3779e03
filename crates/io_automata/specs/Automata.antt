-- An automaton with its formals' values, wherever it lies in memory: what the code's automata and components stand for.
use Rattle.std.specs.Prelude.{ℕ, List, [], map, get_or, slice_get, Option, None, Some}
use Rattle.std.specs.declared.vec.Vec.{Vec}
use Rattle.terms.specs.TermTree.{TermTree, term_tree}
use Rattle.terms.specs.EffectTree.{EffectTree, effect_tree}
use Rattle.terms.specs.declared.scalar.Scalar.{Scalar}
use Rattle.io_automata.specs.declared.automaton.Kind.{Kind}
use Rattle.io_automata.specs.declared.automaton.Param.{Param}
use Rattle.io_automata.specs.declared.automaton.Entry.{Entry}
use Rattle.io_automata.specs.declared.automaton.Automaton.{Automaton}
use Rattle.io_automata.specs.declared.automaton.Component.{Component}

-- an entry of a signature with its transition
pub record Transition : Type 0 where
  pub name : ℕ
  pub kind : Kind
  pub params : List Param
  pub precondition : TermTree
  pub effect : EffectTree

-- a component: the entries and tasks of its automaton, the start values, and the values of its formals; a task lists places of entries
pub record Instance : Type 0 where
  pub entries : List Transition
  pub start : List TermTree
  pub tasks : List (List ℕ)
  pub formals : List Scalar

-- what is not there has no entries
abbrev pub absent : Instance
absent = record { entries = []; start = []; tasks = []; formals = [] }

-- component i of a composition
abbrev pub component_at : List Instance → ℕ → Instance
component_at composition i = get_or composition i absent

abbrev pub transition_of : Entry → Transition
transition_of entry = record { name = entry.name; kind = entry.kind; params = entry.params.items; precondition = term_tree entry.pre; effect = effect_tree entry.effect }

abbrev pub items_in : {A : Type 0} → Vec ℕ A → List ℕ
items_in places = places.items

abbrev pub with_formals : List Scalar → Automaton → Instance
with_formals formals automaton = record { entries = map transition_of automaton.entries.items; start = map term_tree automaton.start.items; tasks = map items_in automaton.tasks.items; formals = formals }

abbrev pub placed : List Scalar → Option Automaton → Instance
placed formals None = record absent { formals = formals }
placed formals (Some automaton) = with_formals formals automaton

-- a component of the code: the automaton that it names, with its formals' values
abbrev pub instance_of : List Automaton → Component → Instance
instance_of automata component = placed component.formals.items (slice_get automata component.automaton)

-- a composition is the list of its components
abbrev pub composed : List Automaton → List Component → List Instance
composed automata components = map (instance_of automata) components
