-- What was read, token by token: a tree whose leaves are the tokens, with a node for each rule of the grammar.
use Rattle.std.specs.Prelude.{Bool, true, false, if◌then◌else◌, List, [], ◌∷◌, ◌++◌}
use Rattle.ioa_tokens.specs.Tokens.{Tok}

-- the rules
pub data Sort : Type 0 where
  source : Sort
  type_definition : Sort
  type_body : Sort
  name_part : Sort
  type : Sort
  signed : Sort
  basic : Sort
  further : Sort
  formal : Sort
  formal_part : Sort
  states : Sort
  variable : Sort
  variable_part : Sort
  tasks : Sort
  task : Sort
  entry : Sort
  parameters : Sort
  parameter : Sort
  parameter_part : Sort
  transition : Sort
  pre_part : Sort
  eff_part : Sort
  component : Sort
  component_part : Sort
  hidden : Sort
  arguments : Sort
  argument_part : Sort
  statements : Sort
  statement_part : Sort
  statement : Sort
  choice : Sort
  elseif_part : Sort
  else_part : Sort
  index_part : Sort
  init : Sort
  term : Sort
  or_part : Sort
  conjunction : Sort
  and_part : Sort
  negation : Sort
  comparison : Sort
  compared : Sort
  sum : Sort
  addend : Sort
  product : Sort
  factor : Sort
  unary : Sort
  postfix : Sort
  primary : Sort

mutual
  pub data Node : Type 0 where
    Leaf : Tok → Node
    Branch : Sort → Nodes → Node

  pub data Nodes : Type 0 where
    none : Nodes
    more : Node → Nodes → Nodes

abbrev pub pack : List Node → Nodes
pack [] = none
pack (n ∷ ns) = more n (pack ns)

-- the tokens in their order
abbrev mutual
  pub yield : Node → List Tok
  yield (Leaf t) = t ∷ []
  yield (Branch s ns) = yield_nodes ns

  pub yield_nodes : Nodes → List Tok
  yield_nodes none = []
  yield_nodes (more n ns) = yield n ++ yield_nodes ns

abbrev pub yields : List Node → List Tok
yields [] = []
yields (n ∷ ns) = yield n ++ yields ns

-- A rule that only passes on what another gave leaves no node.
abbrev pub passes : Sort → Bool
passes type_body = true
passes init = true
passes term = true
passes conjunction = true
passes negation = true
passes comparison = true
passes sum = true
passes product = true
passes unary = true
passes postfix = true
passes _ = false

abbrev pub alone : Sort → List Node → Node
alone s (n ∷ []) = n
alone s ns = Branch s (pack ns)

abbrev pub make : Sort → List Node → Node
make s ns = if passes s then alone s ns else Branch s (pack ns)
