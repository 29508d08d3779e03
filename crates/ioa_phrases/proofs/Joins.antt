-- Lists of nodes in the blocks of an automaton and in a source.
use Rattle.std.proofs.Common.{◌≡◌, ◌<◌, length, arith, List, [], ◌∷◌, ◌++◌, append_assoc, map, refl, sym, ◌∙◌, ap, String, Global, string_bytes}
use Rattle.std.specs.Prelude.{Vec}
use Rattle.ioa_trees.specs.declared.tree.Automaton.{Automaton}
use Rattle.ioa_trees.specs.declared.tree.ComponentTree.{ComponentTree}
use Rattle.ioa_trees.specs.declared.tree.Declared.{Declared}
use Rattle.ioa_trees.specs.declared.tree.Entry.{Entry}
use Rattle.ioa_trees.specs.declared.tree.Transition.{Transition}
use Rattle.ioa_trees.specs.declared.tree.TypeDefinition.{TypeDefinition}
use Rattle.ioa_trees.specs.declared.tree.Variable.{Variable}
use Rattle.ioa_tokens.specs.declared.Word.TheVariants as w
use Rattle.ioa_trees.specs.Nodes.{Node, further, formal_part, variable_part, component_part, hidden, states, tasks}
use Rattle.ioa_trees.specs.Spelling.{key, named, branch, parts, formal_node, formals_nodes, variable_node, states_node, task_node, tasks_node, entry_node, transition_node, basic_node, component_node, components_nodes, hidden_node, type_definition_node, automata_nodes, further_nodes, next_name}
use Rattle.ioa_trees.specs.Trees.{Bytes, PlainAutomaton}
use Rattle.ioa_trees.specs.Views.{view_automaton, view_component, view_declared, view_entry, view_transition, view_type_definition, view_variable}
use Rattle.ioa_phrases.specs.Items.{listed, name_item, names_nodes}
use Rattle.ioa_phrases.proofs.Items.{listed_push, parts_of_names}
use Rattle.ioa_phrases.specs.Lists.{entry_item, transition_item}
use Rattle.ioa_phrases.specs.Blocks.{formal_item, formal_part_item, variable_item, variable_part_item, task_item, component_item, component_part_item, definition_item}

parts_of_formals : (ds : List Declared) → parts formal_part w.Comma formal_node (map view_declared ds) ≡ map formal_part_item ds
parts_of_formals [] = refl
parts_of_formals (d ∷ ds) = ap (λ z. formal_part_item d ∷ z) (parts_of_formals ds)

pub formals_made : (ds : List Declared) → 0 < length ds → formals_nodes (map view_declared ds) ≡ key w.Open ∷ (listed formal_item formal_part_item ds ++ key w.Close ∷ [])
formals_made [] h = absurd (omega arith)
formals_made (d ∷ ds) h = ap (λ z. key w.Open ∷ (formal_item d ∷ (z ++ key w.Close ∷ []))) (parts_of_formals ds)

parts_of_variables : (vs : List Variable) → parts variable_part w.Comma variable_node (map view_variable vs) ≡ map variable_part_item vs
parts_of_variables [] = refl
parts_of_variables (v ∷ vs) = ap (λ z. variable_part_item v ∷ z) (parts_of_variables vs)

pub states_made : (vs : List Variable) → 0 < length vs → states_node (map view_variable vs) ≡ branch states (key w.States ∷ listed variable_item variable_part_item vs) ∷ []
states_made [] h = absurd (omega arith)
states_made (v ∷ vs) h = ap (λ z. branch states (key w.States ∷ (variable_item v ∷ z)) ∷ []) (parts_of_variables vs)

task_items : (ts : List (Vec (String Global) Global)) → map task_node (map (λ t. map string_bytes t.items) ts) ≡ map task_item ts
task_items [] = refl
task_items (t ∷ ts) = ap (λ z. task_item t ∷ z) (task_items ts)

pub tasks_made : (ts : List (Vec (String Global) Global)) → 0 < length ts → tasks_node (map (λ t. map string_bytes t.items) ts) ≡ branch tasks (key w.Tasks ∷ map task_item ts) ∷ []
tasks_made [] h = absurd (omega arith)
tasks_made (t ∷ ts) h = ap (λ z. branch tasks (key w.Tasks ∷ (task_item t ∷ z)) ∷ []) (task_items ts)

pub entry_items : (es : List Entry) → map entry_node (map view_entry es) ≡ map entry_item es
entry_items [] = refl
entry_items (e ∷ es) = ap (λ z. entry_item e ∷ z) (entry_items es)

pub transition_items : (ts : List Transition) → map transition_node (map view_transition ts) ≡ map transition_item ts
transition_items [] = refl
transition_items (t ∷ ts) = ap (λ z. transition_item t ∷ z) (transition_items ts)

pub definition_items : (ds : List TypeDefinition) → map type_definition_node (map view_type_definition ds) ≡ map definition_item ds
definition_items [] = refl
definition_items (d ∷ ds) = ap (λ z. definition_item d ∷ z) (definition_items ds)

parts_of_components : (cs : List ComponentTree) → parts component_part w.Semicolon component_node (map view_component cs) ≡ map component_part_item cs
parts_of_components [] = refl
parts_of_components (c ∷ cs) = ap (λ z. component_part_item c ∷ z) (parts_of_components cs)

pub components_made : (cs : List ComponentTree) → components_nodes (map view_component cs) ≡ listed component_item component_part_item cs
components_made [] = refl
components_made (c ∷ cs) = ap (λ z. component_item c ∷ z) (parts_of_components cs)

pub hidden_made : (ss : List (String Global)) → 0 < length ss → hidden_node (map string_bytes ss) ≡ branch hidden (key w.Hidden ∷ names_nodes ss) ∷ []
hidden_made [] h = absurd (omega arith)
hidden_made (s ∷ ss) h = ap (λ z. branch hidden (key w.Hidden ∷ (name_item s ∷ z)) ∷ []) (parts_of_names ss)

-- the blocks one after the other are the blocks as they nest
pub body_made : (f e s t u : List Node) (a b : Node) → ((f ++ a ∷ []) ++ (e ++ s)) ++ (b ∷ (t ++ u)) ≡ f ++ (a ∷ (e ++ (s ++ (b ∷ (t ++ u)))))
body_made f e s t u a b = append_assoc (f ++ a ∷ []) (e ++ s) (b ∷ (t ++ u))
    ∙ (append_assoc f (a ∷ []) ((e ++ s) ++ (b ∷ (t ++ u)))
    ∙ ap (λ z. f ++ (a ∷ z)) (append_assoc e s (b ∷ (t ++ u))))

-- three nodes one after the other
pub three_made : (done : List Node) (a b c : Node) → ((done ++ a ∷ []) ++ b ∷ []) ++ c ∷ [] ≡ done ++ (a ∷ (b ∷ (c ∷ [])))
three_made done a b c = append_assoc (done ++ a ∷ []) (b ∷ []) (c ∷ []) ∙ append_assoc done (a ∷ []) (b ∷ (c ∷ []))

-- ---- the automata, each with the name of the next

abbrev pub further_node : PlainAutomaton → Bytes → Node
further_node a s = branch further (basic_node a ∷ (key w.Automaton ∷ (named s ∷ [])))

next_push : (rest : List PlainAutomaton) (a : PlainAutomaton) (s : Bytes) → next_name (rest ++ a ∷ []) s ≡ next_name rest a.name
next_push [] a s = refl
next_push (b ∷ rest) a s = refl

further_push : (rest : List PlainAutomaton) (a : PlainAutomaton) (s : Bytes) → further_nodes (rest ++ a ∷ []) s ≡ further_nodes rest a.name ++ further_node a s ∷ []
further_push [] a s = refl
further_push (b ∷ rest) a s = ap (λ z. further_node b z ∷ further_nodes (rest ++ a ∷ []) s) (next_push rest a s)
    ∙ ap (λ z. further_node b (next_name rest a.name) ∷ z) (further_push rest a s)

automata_plain : (all : List PlainAutomaton) (a : PlainAutomaton) (s : Bytes) → 0 < length all → automata_nodes (all ++ a ∷ []) s ≡ automata_nodes all a.name ++ further_node a s ∷ []
automata_plain [] a s h = absurd (omega arith)
automata_plain (b ∷ rest) a s h = ap (λ z. key w.Automaton ∷ (named b.name ∷ (basic_node b ∷ (key w.Automaton ∷ (named z ∷ further_nodes (rest ++ a ∷ []) s))))) (next_push rest a s)
    ∙ ap (λ z. key w.Automaton ∷ (named b.name ∷ (basic_node b ∷ (key w.Automaton ∷ (named (next_name rest a.name) ∷ z))))) (further_push rest a s)

map_pushed : {A B : Type 0} (g : A → B) (xs : List A) (x : A) → map g (xs ++ x ∷ []) ≡ map g xs ++ g x ∷ []
map_pushed g [] x = refl
map_pushed g (y ∷ xs) x = ap (λ z. g y ∷ z) (map_pushed g xs x)

some_mapped : (all : List Automaton) → 0 < length all → 0 < length (map view_automaton all)
some_mapped [] h = absurd (omega arith)
some_mapped (a ∷ all) h = omega arith

pub automata_push : (done : List Node) (all : List Automaton) (a : Automaton) (s : Bytes) → 0 < length all
    → (done ++ automata_nodes (map view_automaton all) (string_bytes a.name)) ++ further_node (view_automaton a) s ∷ [] ≡ done ++ automata_nodes (map view_automaton (all ++ a ∷ [])) s
automata_push done all a s h = append_assoc done (automata_nodes (map view_automaton all) (string_bytes a.name)) (further_node (view_automaton a) s ∷ [])
    ∙ ap (λ z. done ++ z) (sym (ap (λ z. automata_nodes z s) (map_pushed view_automaton all a) ∙ automata_plain (map view_automaton all) (view_automaton a) s (some_mapped all h)))

pub components_push : (done : List Node) (all : List ComponentTree) (c : ComponentTree) → 0 < length all
    → (done ++ (key w.Components ∷ listed component_item component_part_item all)) ++ component_part_item c ∷ [] ≡ done ++ (key w.Components ∷ listed component_item component_part_item (all ++ c ∷ []))
components_push done all c h = append_assoc done (key w.Components ∷ listed component_item component_part_item all) (component_part_item c ∷ [])
    ∙ ap (λ z. done ++ (key w.Components ∷ z)) (sym (listed_push component_item component_part_item all c h))
