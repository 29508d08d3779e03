-- How each tree is spelled: its node, whose leaves are its tokens.
use Rattle.std.specs.Prelude.{Bool, if◌then◌else◌, List, [], ◌∷◌, ◌++◌, map, Option, Some, None}
use Rattle.ioa_trees.specs.declared.tree.Signed.{Signed}
use Rattle.ioa_trees.specs.declared.tree.Sign.{Sign}
use Rattle.ioa_trees.specs.declared.tree.Sign.TheVariants as sign
use Rattle.ioa_trees.specs.declared.tree.Relation.{Relation}
use Rattle.ioa_trees.specs.declared.tree.Relation.TheVariants as relation
use Rattle.ioa_trees.specs.declared.tree.Call.{Call}
use Rattle.ioa_trees.specs.declared.tree.Call.TheVariants as call
use Rattle.ioa_trees.specs.declared.tree.EntryKind.{EntryKind}
use Rattle.ioa_trees.specs.declared.tree.EntryKind.TheVariants as kind
use Rattle.ioa_tokens.specs.declared.Word.{Word}
use Rattle.ioa_tokens.specs.declared.Word.TheVariants as w
use Rattle.ioa_tokens.specs.Tokens.{Tok, Name, Num, Key}
use Rattle.ioa_trees.specs.Nodes.{Sort, source, type_definition, type_body, name_part, type, signed, basic, further, formal, formal_part, states, variable, variable_part, tasks, task, entry, parameters, parameter, parameter_part, transition, pre_part, eff_part, component, component_part, hidden, arguments, argument_part, statements, statement_part, statement, choice, elseif_part, else_part, index_part, init, term, or_part, conjunction, and_part, negation, comparison, compared, sum, addend, product, factor, unary, postfix, primary, Node, Leaf, Branch, Nodes, none, more, pack, yield}
use Rattle.ioa_trees.specs.Trees.{Bytes, PlainType, Bools, Ints, Range, Named, SeqOf, ArrayOf, PlainTerm, Number, True, False, Variable, Group, Called, Append, Index, Minus, Product, Sum, Compare, Not, And, Or, PlainTerms, no_term, more_terms, PlainFactor, Times, Modulo, PlainFactors, no_factor, more_factors, PlainAddends, no_addend, more_addends, PlainInit, Empty, Fill, Value, PlainDeclared, PlainStatement, Assign, If, For, PlainStatements, no_statement, more_statements, PlainBranches, no_branch, more_branches, PlainParameter, Constant, Typed, PlainEntry, PlainVariable, PlainTransition, PlainAutomaton, PlainComponent, PlainComposed, PlainTypeBody, Same, Enumeration, PlainTypeDefinition, PlainSource}
use Rattle.ioa_trees.specs.Grammar.{Is}

abbrev pub key : Word → Node
key w = Leaf (Key w)

abbrev pub named : Bytes → Node
named s = Leaf (Name s)

abbrev pub branch : Sort → List Node → Node
branch s ns = Branch s (pack ns)

abbrev pub word_of_sign : Sign → Word
word_of_sign sign.Plus = w.Plus
word_of_sign sign.Minus = w.Minus

abbrev pub word_of_relation : Relation → Word
word_of_relation relation.Equal = w.Equal
word_of_relation relation.NotEqual = w.NotEqual
word_of_relation relation.Less = w.Less
word_of_relation relation.AtMost = w.AtMost
word_of_relation relation.Greater = w.Greater
word_of_relation relation.AtLeast = w.AtLeast

abbrev pub word_of_call : Call → Word
word_of_call call.Head = w.Head
word_of_call call.Tail = w.Tail
word_of_call call.Len = w.Len

abbrev pub word_of_kind : EntryKind → Word
word_of_kind kind.Input = w.Input
word_of_kind kind.Output = w.Output
word_of_kind kind.Internal = w.Internal

abbrev pub signed_node : Signed → Node
signed_node s = if s.is_negative then branch signed (key w.Minus ∷ (Leaf (Num s.size) ∷ [])) else branch signed (Leaf (Num s.size) ∷ [])

abbrev pub type_node : PlainType → Node
type_node Bools = branch type (key w.Bool ∷ [])
type_node Ints = branch type (key w.Int ∷ [])
type_node (Range a b) = branch type (signed_node a ∷ (key w.DotDot ∷ (signed_node b ∷ [])))
type_node (Named s) = branch type (named s ∷ [])
type_node (SeqOf t n) = branch type (key w.Seq ∷ (key w.OpenBracket ∷ (type_node t ∷ (key w.Comma ∷ (Leaf (Num n) ∷ (key w.CloseBracket ∷ []))))))
type_node (ArrayOf t u) = branch type (key w.Array ∷ (key w.OpenBracket ∷ (type_node t ∷ (key w.Comma ∷ (type_node u ∷ (key w.CloseBracket ∷ []))))))

abbrev pub index_node : Node → Node
index_node n = branch index_part (key w.OpenBracket ∷ (n ∷ (key w.CloseBracket ∷ [])))

abbrev mutual
  pub node : PlainTerm → Node
  node (Number n) = branch primary (Leaf (Num n) ∷ [])
  node True = branch primary (key w.True ∷ [])
  node False = branch primary (key w.False ∷ [])
  node (Variable s) = branch primary (named s ∷ [])
  node (Group t) = branch primary (key w.Open ∷ (node t ∷ (key w.Close ∷ [])))
  node (Called c t) = branch primary (key (word_of_call c) ∷ (key w.Open ∷ (node t ∷ (key w.Close ∷ []))))
  node (Append t u) = branch primary (key w.Append ∷ (key w.Open ∷ (node t ∷ (key w.Comma ∷ (node u ∷ (key w.Close ∷ []))))))
  node (Index t us) = Branch postfix (more (node t) (index_nodes us))
  node (Minus t) = branch unary (key w.Minus ∷ (node t ∷ []))
  node (Product t fs) = Branch product (more (node t) (factor_nodes fs))
  node (Sum t ss) = Branch sum (more (node t) (addend_nodes ss))
  node (Compare t r u) = branch comparison (node t ∷ (branch compared (key (word_of_relation r) ∷ (node u ∷ [])) ∷ []))
  node (Not t) = branch negation (key w.Not ∷ (node t ∷ []))
  node (And t us) = Branch conjunction (more (node t) (and_nodes us))
  node (Or t us) = Branch term (more (node t) (or_nodes us))

  pub index_nodes : PlainTerms → Nodes
  index_nodes no_term = none
  index_nodes (more_terms t ts) = more (index_node (node t)) (index_nodes ts)

  pub and_nodes : PlainTerms → Nodes
  and_nodes no_term = none
  and_nodes (more_terms t ts) = more (branch and_part (key w.And ∷ (node t ∷ []))) (and_nodes ts)

  pub or_nodes : PlainTerms → Nodes
  or_nodes no_term = none
  or_nodes (more_terms t ts) = more (branch or_part (key w.Or ∷ (node t ∷ []))) (or_nodes ts)

  pub factor_node : PlainFactor → Node
  factor_node (Times t) = branch factor (key w.Times ∷ (node t ∷ []))
  factor_node (Modulo n) = branch factor (key w.Mod ∷ (Leaf (Num n) ∷ []))

  pub factor_nodes : PlainFactors → Nodes
  factor_nodes no_factor = none
  factor_nodes (more_factors f fs) = more (factor_node f) (factor_nodes fs)

  pub addend_nodes : PlainAddends → Nodes
  addend_nodes no_addend = none
  addend_nodes (more_addends s t ss) = more (branch addend (key (word_of_sign s) ∷ (node t ∷ []))) (addend_nodes ss)

abbrev pub init_node : PlainInit → Node
init_node Empty = key w.Empty
init_node (Fill i) = branch init (key w.Fill ∷ (key w.Open ∷ (init_node i ∷ (key w.Close ∷ []))))
init_node (Value t) = node t

-- an index, where there is one
abbrev pub at_index : Option PlainTerm → List Node
at_index None = []
at_index (Some t) = index_node (node t) ∷ []

abbrev mutual
  pub statement_node : PlainStatement → Node
  statement_node (Assign s i v) = branch statement (named s ∷ (at_index i ++ (key w.Assign ∷ (init_node v ∷ []))))
  statement_node (If bs ss) = Branch statement (more (key w.If) (if_nodes bs (else_nodes ss)))
  statement_node (For d ss) = branch statement (key w.For ∷ (named d.name ∷ (key w.Colon ∷ (type_node d.of ∷ (key w.Do ∷ (statements_node ss ∷ (key w.Od ∷ [])))))))

  pub if_nodes : PlainBranches → Nodes → Nodes
  if_nodes no_branch ns = ns
  if_nodes (more_branches t ss bs) ns = more (branch choice (node t ∷ (key w.Then ∷ (statements_node ss ∷ [])))) (elseif_nodes bs ns)

  pub elseif_nodes : PlainBranches → Nodes → Nodes
  elseif_nodes no_branch ns = ns
  elseif_nodes (more_branches t ss bs) ns =
      more (branch elseif_part (key w.Elseif ∷ (branch choice (node t ∷ (key w.Then ∷ (statements_node ss ∷ []))) ∷ []))) (elseif_nodes bs ns)

  pub else_nodes : PlainStatements → Nodes
  else_nodes no_statement = more (key w.Fi) none
  else_nodes (more_statements s ss) = more (branch else_part (key w.Else ∷ (Branch statements (more (statement_node s) (statement_nodes ss)) ∷ []))) (more (key w.Fi) none)

  pub statements_node : PlainStatements → Node
  statements_node no_statement = Branch statements none
  statements_node (more_statements s ss) = Branch statements (more (statement_node s) (statement_nodes ss))

  pub statement_nodes : PlainStatements → Nodes
  statement_nodes no_statement = none
  statement_nodes (more_statements s ss) = more (branch statement_part (key w.Semicolon ∷ (statement_node s ∷ []))) (statement_nodes ss)

abbrev pub choice_node : PlainTerm × PlainStatements → Node
choice_node b = branch choice (node b.0 ∷ (key w.Then ∷ (statements_node b.1 ∷ [])))

abbrev pub formal_node : PlainDeclared → Node
formal_node d = branch formal (named d.name ∷ (key w.Colon ∷ (type_node d.of ∷ [])))

abbrev pub parameter_node : PlainParameter → Node
parameter_node (Constant s) = branch parameter (key w.Const ∷ (named s ∷ []))
parameter_node (Typed d) = branch parameter (named d.name ∷ (key w.Colon ∷ (type_node d.of ∷ [])))

-- the items after the first, each behind a sign
abbrev pub parts : {A : Type 0} → Sort → Word → (A → Node) → List A → List Node
parts s w f xs = map (λ x. branch s (key w ∷ (f x ∷ []))) xs

-- the first, and the others each behind a sign
abbrev pub separated : {A : Type 0} → Sort → Word → (A → Node) → List A → List Node
separated s w f [] = []
separated s w f (x ∷ xs) = f x ∷ parts s w f xs

abbrev pub parameters_tree : List PlainParameter → Node
parameters_tree ps = branch parameters (key w.Open ∷ (separated parameter_part w.Comma parameter_node ps ++ (key w.Close ∷ [])))

abbrev pub parameters_node : List PlainParameter → List Node
parameters_node [] = []
parameters_node (p ∷ ps) = parameters_tree (p ∷ ps) ∷ []

abbrev pub entry_node : PlainEntry → Node
entry_node e = branch entry (key (word_of_kind e.kind) ∷ (named e.name ∷ parameters_node e.parameters))

abbrev pub variable_node : PlainVariable → Node
variable_node v = branch variable (named v.declared.name ∷ (key w.Colon ∷ (type_node v.declared.of ∷ (key w.Assign ∷ (init_node v.start ∷ [])))))

abbrev pub states_node : List PlainVariable → List Node
states_node [] = []
states_node (v ∷ vs) = branch states (key w.States ∷ (variable_node v ∷ parts variable_part w.Comma variable_node vs)) ∷ []

abbrev pub pre_node : Option PlainTerm → List Node
pre_node None = []
pre_node (Some t) = branch pre_part (key w.Pre ∷ (node t ∷ [])) ∷ []

abbrev pub eff_node : PlainStatements → List Node
eff_node no_statement = []
eff_node (more_statements s ss) = branch eff_part (key w.Eff ∷ (statements_node (more_statements s ss) ∷ [])) ∷ []

abbrev pub transition_node : PlainTransition → Node
transition_node t = branch transition (entry_node t.entry ∷ (pre_node t.pre ++ eff_node t.eff))

abbrev pub task_node : List Bytes → Node
task_node [] = branch task []
task_node (s ∷ ss) = branch task (key w.OpenBrace ∷ (named s ∷ (parts name_part w.Comma named ss ++ (key w.CloseBrace ∷ []))))

abbrev pub tasks_node : List (List Bytes) → List Node
tasks_node [] = []
tasks_node (t ∷ ts) = branch tasks (key w.Tasks ∷ (task_node t ∷ map task_node ts)) ∷ []

abbrev pub body_nodes : PlainAutomaton → List Node
body_nodes a = map entry_node a.entries ++ (states_node a.variables ++ (key w.Transitions ∷ (map transition_node a.transitions ++ tasks_node a.tasks)))

abbrev pub formals_nodes : List PlainDeclared → List Node
formals_nodes [] = []
formals_nodes (d ∷ ds) = key w.Open ∷ (formal_node d ∷ (parts formal_part w.Comma formal_node ds ++ (key w.Close ∷ [])))

-- what follows the name of an automaton
abbrev pub basic_node : PlainAutomaton → Node
basic_node a = branch basic (formals_nodes a.formals ++ (key w.Signature ∷ body_nodes a))

abbrev pub arguments_tree : List PlainTerm → Node
arguments_tree ts = branch arguments (key w.Open ∷ (separated argument_part w.Comma node ts ++ (key w.Close ∷ [])))

abbrev pub arguments_node : List PlainTerm → List Node
arguments_node [] = []
arguments_node (t ∷ ts) = arguments_tree (t ∷ ts) ∷ []

abbrev pub component_node : PlainComponent → Node
component_node c = branch component (named c.name ∷ (key w.Colon ∷ (named c.automaton ∷ arguments_node c.arguments)))

abbrev pub components_nodes : List PlainComponent → List Node
components_nodes [] = []
components_nodes (c ∷ cs) = component_node c ∷ parts component_part w.Semicolon component_node cs

-- where no output is hidden, nothing stands there
abbrev pub hidden_node : List Bytes → List Node
hidden_node [] = []
hidden_node (s ∷ ss) = branch hidden (key w.Hidden ∷ (named s ∷ parts name_part w.Comma named ss)) ∷ []

-- the end of a source, after the composed automaton's name
abbrev pub composed_nodes : PlainComposed → List Node
composed_nodes c = key w.Components ∷ (components_nodes c.components ++ hidden_node c.hidden)

abbrev pub type_body_node : PlainTypeBody → Node
type_body_node (Same t) = type_node t
type_body_node (Enumeration []) = key w.Enumeration
type_body_node (Enumeration (s ∷ ss)) = branch type_body (key w.Enumeration ∷ (key w.Of ∷ (named s ∷ parts name_part w.Comma named ss)))

abbrev pub type_definition_node : PlainTypeDefinition → Node
type_definition_node d = branch type_definition (key w.Type ∷ (named d.name ∷ (key w.Equal ∷ (type_body_node d.body ∷ []))))

-- the name of the next automaton, the composed one where no other is left
abbrev pub next_name : List PlainAutomaton → Bytes → Bytes
next_name [] s = s
next_name (a ∷ rest) s = a.name

-- the automata after the first, each with the name of the next
abbrev pub further_nodes : List PlainAutomaton → Bytes → List Node
further_nodes [] s = []
further_nodes (a ∷ rest) s = branch further (basic_node a ∷ (key w.Automaton ∷ (named (next_name rest s) ∷ []))) ∷ further_nodes rest s

abbrev pub automata_nodes : List PlainAutomaton → Bytes → List Node
automata_nodes [] s = []
automata_nodes (a ∷ rest) s = key w.Automaton ∷ (named a.name ∷ (basic_node a ∷ (key w.Automaton ∷ (named (next_name rest s) ∷ further_nodes rest s))))

abbrev pub source_nodes : PlainSource → List Node
source_nodes s = map type_definition_node s.types ++ (automata_nodes s.automata s.composed.name ++ composed_nodes s.composed)

abbrev pub source_node : PlainSource → Node
source_node s = branch source (source_nodes s)

-- the tokens of a source in their order
abbrev pub spell : PlainSource → List Tok
spell s = yield (source_node s)

-- The tree is one that the grammar gives, within the limit where there is one.
abbrev pub IsSource : Bool → PlainSource → Type 0
IsSource limited s = Is limited source 0 (source_node s)
