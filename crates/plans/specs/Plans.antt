-- The composition that a plan stands for, and its texts.
use Rattle.std.specs.Prelude.{◌≡◌, ℕ, Bool, false, List, [], ◌∷◌, map, slice_get, Option, None, Some, zero, suc, string_bytes, refl}
use Rattle.terms.specs.ShapeTree.{ShapeTree, shape_tree}
use Rattle.io_automata.specs.declared.automaton.Automaton.{Automaton}
use Rattle.io_automata.specs.declared.automaton.Component.{Component}
use Rattle.io_automata.specs.declared.automaton.ActionName.{ActionName}
use Rattle.plans.specs.declared.plan.Plan.{Plan}
use Rattle.io_automata.specs.Automata.{Instance, absent, component_at, composed, instance_of}

-- the composition that a plan stands for
abbrev pub composition : Plan → List Instance
composition plan = composed plan.automata.items plan.components.items

abbrev pub text_of : ActionName → List ℕ
text_of name = string_bytes name.text

-- the texts of the actions' names, in the order of their numbers, and of the members
abbrev pub action_texts : Plan → List (List ℕ)
action_texts plan = map text_of plan.actions.items

-- the types of the parameters of the actions of a name
abbrev pub types_of : ActionName → List ShapeTree
types_of name = map shape_tree name.parameters.items

abbrev pub action_types : Plan → List (List ShapeTree)
action_types plan = map types_of plan.actions.items

-- whether outputs of a name are hidden; the marks of the names, in the order of their numbers
abbrev pub mark_of : ActionName → Bool
mark_of name = name.is_hidden

abbrev pub hidden_marks : Plan → List Bool
hidden_marks plan = map mark_of plan.actions.items

abbrev pub mark_in : Option Bool → Bool
mark_in None = false
mark_in (Some mark) = mark

-- outputs of the name of this number are hidden
abbrev pub hides : Plan → ℕ → Bool
hides plan name = mark_in (slice_get (hidden_marks plan) name)

abbrev pub member_texts : Plan → List (List ℕ)
member_texts plan = map string_bytes plan.members.items

abbrev pub instance_in : List Automaton → Option Component → Instance
instance_in automata None = absent
instance_in automata (Some component) = instance_of automata component

-- component i of a composition, from where the code has it
pub component_found : (automata : List Automaton) (components : List Component) (i : ℕ) → component_at (composed automata components) i ≡ instance_in automata (slice_get components i)
component_found automata [] i = refl
component_found automata (component ∷ components) zero = refl
component_found automata (component ∷ components) (suc i) = component_found automata components i

abbrev pub automaton_in : List Automaton → Option Component → Option Automaton
automaton_in automata None = None
automaton_in automata (Some component) = slice_get automata component.automaton
