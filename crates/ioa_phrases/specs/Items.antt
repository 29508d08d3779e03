-- One item of each repetition, as a node.
use Rattle.std.specs.Prelude.{List, [], ◌∷◌, map, String, string_bytes}
use Rattle.std.specs.declared.alloc.Global.{Global}
use Rattle.ioa_tokens.specs.declared.Word.TheVariants as w
use Rattle.ioa_trees.specs.Nodes.{Node, argument_part, parameter_part, name_part, and_part, or_part, addend, statement_part, elseif_part}
use Rattle.ioa_trees.specs.Spelling.{parameter_node, node, index_node, factor_node, branch, key, word_of_sign, named, type_node, statement_node, choice_node}
use Rattle.ioa_trees.specs.Trees.{PlainDeclared, PlainTerm, PlainFactor, Or, And, Index, Product, Sum, pack_terms, pack_factors, pack_addends}
use Rattle.ioa_trees.specs.declared.tree.Sign.{Sign}
use Rattle.ioa_trees.specs.declared.tree.Term.{Term}
use Rattle.ioa_trees.specs.declared.tree.Factor.{Factor}
use Rattle.ioa_trees.specs.declared.tree.Addend.{Addend}
use Rattle.ioa_trees.specs.Views.{view_parameter, view, view_factor, view_addend, view_statement, view_branch}
use Rattle.ioa_trees.specs.declared.tree.Statement.{Statement}
use Rattle.ioa_trees.specs.declared.tree.Branch.{Branch}
use Rattle.ioa_trees.specs.declared.tree.Parameter.{Parameter}

abbrev pub index_item : Term → Node
index_item t = index_node (node (view t))

abbrev pub and_item : Term → Node
and_item t = branch and_part (key w.And ∷ (node (view t) ∷ []))

abbrev pub or_item : Term → Node
or_item t = branch or_part (key w.Or ∷ (node (view t) ∷ []))

abbrev pub factor_item : Factor → Node
factor_item f = factor_node (view_factor f)

abbrev pub pair_item : Sign × PlainTerm → Node
pair_item a = branch addend (key (word_of_sign a.0) ∷ (node a.1 ∷ []))

abbrev pub addend_item : Addend → Node
addend_item a = pair_item (view_addend a)

-- the first of a list in one form, the others in another
abbrev pub listed : {A B : Type 0} → (A → B) → (A → B) → List A → List B
listed f g [] = []
listed f g (x ∷ xs) = f x ∷ map g xs

abbrev pub name_item : String Global → Node
name_item s = named (string_bytes s)

abbrev pub name_part_item : String Global → Node
name_part_item s = branch name_part (key w.Comma ∷ (named (string_bytes s) ∷ []))

-- names with commas between
abbrev pub names_nodes : List (String Global) → List Node
names_nodes ss = listed name_item name_part_item ss

abbrev pub parameter_item : Parameter → Node
parameter_item p = parameter_node (view_parameter p)

abbrev pub parameter_part_item : Parameter → Node
parameter_part_item p = branch parameter_part (key w.Comma ∷ (parameter_node (view_parameter p) ∷ []))

abbrev pub term_item : Term → Node
term_item t = node (view t)

abbrev pub argument_item : Term → Node
argument_item t = branch argument_part (key w.Comma ∷ (node (view t) ∷ []))

abbrev pub statement_item : Statement → Node
statement_item s = statement_node (view_statement s)

abbrev pub statement_part_item : Statement → Node
statement_part_item s = branch statement_part (key w.Semicolon ∷ (statement_node (view_statement s) ∷ []))

abbrev pub choice_item : Branch → Node
choice_item b = choice_node (view_branch b)

abbrev pub elseif_item : Branch → Node
elseif_item b = branch elseif_part (key w.Elseif ∷ (choice_node (view_branch b) ∷ []))

-- `for`, its variable and the type
abbrev pub loop_head : PlainDeclared → List Node
loop_head d = key w.For ∷ (named d.name ∷ (key w.Colon ∷ (type_node d.of ∷ [])))

-- a variable and its type
abbrev pub variable_head : PlainDeclared → List Node
variable_head d = named d.name ∷ (key w.Colon ∷ (type_node d.of ∷ []))

-- ---- a repetition of one alone is that one

abbrev pub or_tree : PlainTerm → List PlainTerm → PlainTerm
or_tree t [] = t
or_tree t (u ∷ us) = Or t (pack_terms (u ∷ us))

abbrev pub and_tree : PlainTerm → List PlainTerm → PlainTerm
and_tree t [] = t
and_tree t (u ∷ us) = And t (pack_terms (u ∷ us))

abbrev pub index_tree : PlainTerm → List PlainTerm → PlainTerm
index_tree t [] = t
index_tree t (u ∷ us) = Index t (pack_terms (u ∷ us))

abbrev pub product_tree : PlainTerm → List PlainFactor → PlainTerm
product_tree t [] = t
product_tree t (u ∷ us) = Product t (pack_factors (u ∷ us))

abbrev pub sum_tree : PlainTerm → List (Sign × PlainTerm) → PlainTerm
sum_tree t [] = t
sum_tree t (u ∷ us) = Sum t (pack_addends (u ∷ us))
