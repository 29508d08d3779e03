-- The tokens of parts of trees that are lists of nodes.
use Rattle.std.specs.Prelude.{Bool, true, false, List, [], ◌∷◌, ◌++◌, map}
use Rattle.ioa_tokens.specs.declared.Word.TheVariants as w
use Rattle.ioa_tokens.specs.Tokens.{Tok, Key, Name}
use Rattle.ioa_trees.specs.Nodes.{Node, Nodes, yield, yield_nodes}
use Rattle.ioa_trees.specs.Trees.{PlainStatements, PlainBranches, PlainDeclared, PlainAutomaton}
use Rattle.ioa_trees.specs.Spelling.{key, type_node, formals_nodes, entry_node, states_node, transition_node, tasks_node, basic_node, statements_node, statement_nodes, if_nodes, elseif_nodes}

-- the statements that are left, the first of all or later ones
abbrev pub rest_toks : Bool → PlainStatements → List Tok
rest_toks true ss = yield (statements_node ss)
rest_toks false ss = yield_nodes (statement_nodes ss)

-- the branches that are left, and what follows them
abbrev pub branches_toks : Bool → PlainBranches → Nodes → List Tok
branches_toks true bs ns = yield_nodes (if_nodes bs ns)
branches_toks false bs ns = yield_nodes (elseif_nodes bs ns)

-- `for`, a name, its type and `do`
abbrev pub loop_toks : PlainDeclared → List Tok
loop_toks d = Key w.For ∷ (Name d.name ∷ (Key w.Colon ∷ (yield (type_node d.of) ++ Key w.Do ∷ [])))

-- the formals, the signature and the state
abbrev pub head_nodes : PlainAutomaton → List Node
head_nodes a = formals_nodes a.formals ++ (key w.Signature ∷ (map entry_node a.entries ++ states_node a.variables))

-- the transitions and the tasks
abbrev pub behaviour_nodes : PlainAutomaton → List Node
behaviour_nodes a = key w.Transitions ∷ (map transition_node a.transitions ++ tasks_node a.tasks)

-- an automaton behind its own name
abbrev pub automaton_toks : PlainAutomaton → List Tok
automaton_toks a = Key w.Automaton ∷ (Name a.name ∷ yield (basic_node a))

abbrev pub automata_toks : List PlainAutomaton → List Tok
automata_toks [] = []
automata_toks (a ∷ rest) = automaton_toks a ++ automata_toks rest
