-- The sizes of automata, components and definitions count the leaves of their nodes.
use Rattle.std.proofs.Common.{◌≡◌, ℕ, ◌+◌, List, [], ◌∷◌, ◌++◌, map, Option, Some, None, refl, arith}
use Rattle.ioa_tokens.specs.declared.Word.{Word}
use Rattle.ioa_tokens.specs.declared.Word.TheVariants as w
use Rattle.ioa_trees.specs.Nodes.{Sort, name_part, formal_part, variable_part, parameter_part, argument_part, Node, pack}
use Rattle.ioa_trees.specs.Spelling.{key, named, node, parts, parameter_node, parameters_node, entry_node, formal_node, formals_nodes, variable_node, states_node, pre_node, eff_node, transition_node, task_node, tasks_node, body_nodes, basic_node, arguments_node, component_node, hidden_node, type_body_node, type_definition_node}
use Rattle.ioa_trees.specs.Trees.{Bytes, PlainTerm, PlainDeclared, PlainStatements, no_statement, more_statements, PlainParameter, Constant, Typed, PlainEntry, PlainVariable, PlainTransition, PlainAutomaton, PlainComponent, PlainTypeBody, Same, Enumeration, PlainTypeDefinition}
use Rattle.ioa_trees.specs.Sizes.{size, behind, listed_size, bracketed_size, row_size, name_size, declared_size, parameter_size, entry_size, variable_size, pre_size, eff_size, transition_size, task_size, after_word, automaton_size, body_size, definition_size, component_size, hidden_size}
use Rattle.ioa_trees.proofs.Counts.{count, counts, counts_append}
use Rattle.ioa_trees.proofs.CountsTerms.{type_counts, term_counts, init_counts}
use Rattle.ioa_trees.proofs.CountsStatements.{statements_counts}

pub parts_counts : {A : Type 0} (s : Sort) (v : Word) (f : A → Node) (g : A → ℕ) → ((x : A) → count (f x) ≡ g x)
    → (xs : List A) → counts (pack (parts s v f xs)) ≡ behind g xs
parts_counts s v f g e [] = refl
parts_counts s v f g e (x ∷ xs) = omega (arith, e x, parts_counts s v f g e xs)

pub row_counts : {A : Type 0} (f : A → Node) (g : A → ℕ) → ((x : A) → count (f x) ≡ g x) → (xs : List A) → counts (pack (map f xs)) ≡ row_size g xs
row_counts f g e [] = refl
row_counts f g e (x ∷ xs) = omega (arith, e x, row_counts f g e xs)

-- the first, the others behind a sign, and one token more
closed_counts : {A : Type 0} (s : Sort) (v : Word) (f : A → Node) (g : A → ℕ) (n : Node) → ((x : A) → count (f x) ≡ g x) → count n ≡ 1
    → (x : A) (xs : List A) → count (f x) + counts (pack (parts s v f xs ++ (n ∷ []))) ≡ listed_size g (x ∷ xs) + 1
closed_counts s v f g n e one x xs = omega (arith, e x, one, parts_counts s v f g e xs, counts_append (parts s v f xs) (n ∷ []))

pub formal_counts : (d : PlainDeclared) → count (formal_node d) ≡ declared_size d
formal_counts d = omega (arith, type_counts d.of)

pub parameter_counts : (p : PlainParameter) → count (parameter_node p) ≡ parameter_size p
parameter_counts (Constant q) = refl
parameter_counts (Typed d) = omega (arith, type_counts d.of)

parameters_counts : (ps : List PlainParameter) → counts (pack (parameters_node ps)) ≡ bracketed_size parameter_size ps
parameters_counts [] = refl
parameters_counts (p ∷ ps) = omega (arith, closed_counts parameter_part w.Comma parameter_node parameter_size (key w.Close) parameter_counts refl p ps)

pub entry_counts : (e : PlainEntry) → count (entry_node e) ≡ entry_size e
entry_counts e = omega (arith, parameters_counts e.parameters)

pub variable_counts : (v : PlainVariable) → count (variable_node v) ≡ variable_size v
variable_counts v = omega (arith, type_counts v.declared.of, init_counts v.start)

pub states_counts : (vs : List PlainVariable) → counts (pack (states_node vs)) ≡ after_word (listed_size variable_size vs) vs
states_counts [] = refl
states_counts (v ∷ vs) = omega (arith, variable_counts v, parts_counts variable_part w.Comma variable_node variable_size variable_counts vs)

pub pre_counts : (t : Option PlainTerm) → counts (pack (pre_node t)) ≡ pre_size t
pre_counts None = refl
pre_counts (Some t) = omega (arith, term_counts t)

eff_counts : (ss : PlainStatements) → counts (pack (eff_node ss)) ≡ eff_size ss
eff_counts no_statement = refl
eff_counts (more_statements s ss) = omega (arith, statements_counts (more_statements s ss))

pub transition_counts : (t : PlainTransition) → count (transition_node t) ≡ transition_size t
transition_counts t = omega (arith, entry_counts t.entry, counts_append (pre_node t.pre) (eff_node t.eff), pre_counts t.pre, eff_counts t.eff)

pub name_counts : (q : Bytes) → count (named q) ≡ name_size q
name_counts q = refl

pub task_counts : (ns : List Bytes) → count (task_node ns) ≡ task_size ns
task_counts [] = refl
task_counts (n ∷ ns) = omega (arith, closed_counts name_part w.Comma named name_size (key w.CloseBrace) name_counts refl n ns)

pub tasks_counts : (ts : List (List Bytes)) → counts (pack (tasks_node ts)) ≡ after_word (row_size task_size ts) ts
tasks_counts [] = refl
tasks_counts (t ∷ ts) = omega (arith, task_counts t, row_counts task_node task_size task_counts ts)

pub formals_counts : (ds : List PlainDeclared) → counts (pack (formals_nodes ds)) ≡ bracketed_size declared_size ds
formals_counts [] = refl
formals_counts (d ∷ ds) = omega (arith, closed_counts formal_part w.Comma formal_node declared_size (key w.Close) formal_counts refl d ds)

body_counts : (a : PlainAutomaton) → counts (pack (body_nodes a))
    ≡ row_size entry_size a.entries + after_word (listed_size variable_size a.variables) a.variables
    + 1 + row_size transition_size a.transitions + after_word (row_size task_size a.tasks) a.tasks
body_counts a = omega (
  arith,
  counts_append (map entry_node a.entries) (states_node a.variables ++ (key w.Transitions ∷ (map transition_node a.transitions ++ tasks_node a.tasks))),
  counts_append (states_node a.variables) (key w.Transitions ∷ (map transition_node a.transitions ++ tasks_node a.tasks)),
  counts_append (map transition_node a.transitions) (tasks_node a.tasks),
  row_counts entry_node entry_size entry_counts a.entries,
  states_counts a.variables,
  row_counts transition_node transition_size transition_counts a.transitions,
  tasks_counts a.tasks,
)

-- `automaton` and the name stand before it
pub basic_counts : (a : PlainAutomaton) → count (basic_node a) + 2 ≡ automaton_size a
basic_counts a = omega (arith, counts_append (formals_nodes a.formals) (key w.Signature ∷ body_nodes a), formals_counts a.formals, body_counts a)

arguments_counts : (ts : List PlainTerm) → counts (pack (arguments_node ts)) ≡ bracketed_size size ts
arguments_counts [] = refl
arguments_counts (t ∷ ts) = omega (arith, closed_counts argument_part w.Comma node size (key w.Close) term_counts refl t ts)

pub component_counts : (c : PlainComponent) → count (component_node c) ≡ component_size c
component_counts c = omega (arith, arguments_counts c.arguments)

pub hidden_counts : (qs : List Bytes) → counts (pack (hidden_node qs)) ≡ hidden_size qs
hidden_counts [] = refl
hidden_counts (q ∷ qs) = omega (arith, parts_counts name_part w.Comma named name_size name_counts qs)

type_body_counts : (b : PlainTypeBody) → count (type_body_node b) ≡ body_size b
type_body_counts (Same t) = type_counts t
type_body_counts (Enumeration []) = refl
type_body_counts (Enumeration (n ∷ ns)) = omega (arith, parts_counts name_part w.Comma named name_size name_counts ns)

pub definition_counts : (d : PlainTypeDefinition) → count (type_definition_node d) ≡ definition_size d
definition_counts d = omega (arith, type_body_counts d.body)
