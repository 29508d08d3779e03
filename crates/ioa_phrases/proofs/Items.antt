-- Lists of trees and of nodes.
use Rattle.std.proofs.Common.{String, Global, string_bytes, ◌<◌, length, arith, ◌≡◌, List, [], ◌∷◌, ◌++◌, append_assoc, ◌∙◌, sym, map, refl, ap}
use Rattle.ioa_trees.specs.Nodes.{Node, Branch, type_body, argument_part, eff_part, name_part, task, parameter_part, statement, statements, else_part, pack, more, make, term, conjunction, postfix, product, sum}
use Rattle.ioa_trees.specs.Spelling.{type_body_node, arguments_node, arguments_tree, eff_node, named, task_node, parts, separated, parameter_node, parameters_node, parameters_tree, key, branch, statement_node, statements_node, statement_nodes, if_nodes, elseif_nodes, node, index_nodes, and_nodes, or_nodes, factor_nodes, addend_nodes}
use Rattle.ioa_phrases.specs.Items.{term_item, argument_item, parameter_item, parameter_part_item, index_item, and_item, or_item, factor_item, addend_item, or_tree, and_tree, index_tree, product_tree, sum_tree, listed, statement_item, statement_part_item, choice_item, elseif_item, names_nodes, name_item, name_part_item}
use Rattle.ioa_trees.specs.Trees.{Enumeration, If, no_statement, pack_statements, pack_branches, PlainTerm, pack_terms, pack_factors, pack_addends}
use Rattle.ioa_trees.specs.declared.tree.Term.{Term}
use Rattle.ioa_trees.specs.declared.tree.Factor.{Factor}
use Rattle.ioa_trees.specs.declared.tree.Addend.{Addend}
use Rattle.ioa_trees.specs.Views.{view_parameter, view, view_factor, view_addend, view_statement, view_statements, view_branch}
use Rattle.ioa_trees.specs.declared.tree.Statement.{Statement}
use Rattle.ioa_trees.specs.declared.tree.Parameter.{Parameter}
use Rattle.ioa_trees.specs.declared.tree.Branch.{Branch as Branched}
use Rattle.ioa_tokens.specs.declared.Word.TheVariants as w

pub items_of_indexes : (ts : List Term) → index_nodes (pack_terms (map view ts)) ≡ pack (map index_item ts)
items_of_indexes [] = refl
items_of_indexes (t ∷ ts) = ap (λ z. more (index_item t) z) (items_of_indexes ts)

pub items_of_ands : (ts : List Term) → and_nodes (pack_terms (map view ts)) ≡ pack (map and_item ts)
items_of_ands [] = refl
items_of_ands (t ∷ ts) = ap (λ z. more (and_item t) z) (items_of_ands ts)

pub items_of_ors : (ts : List Term) → or_nodes (pack_terms (map view ts)) ≡ pack (map or_item ts)
items_of_ors [] = refl
items_of_ors (t ∷ ts) = ap (λ z. more (or_item t) z) (items_of_ors ts)

pub items_of_factors : (ts : List Factor) → factor_nodes (pack_factors (map view_factor ts)) ≡ pack (map factor_item ts)
items_of_factors [] = refl
items_of_factors (t ∷ ts) = ap (λ z. more (factor_item t) z) (items_of_factors ts)

pub items_of_addends : (ts : List Addend) → addend_nodes (pack_addends (map view_addend ts)) ≡ pack (map addend_item ts)
items_of_addends [] = refl
items_of_addends (t ∷ ts) = ap (λ z. more (addend_item t) z) (items_of_addends ts)

pub or_made : (t : PlainTerm) (us : List Term) → node (or_tree t (map view us)) ≡ make term (node t ∷ map or_item us)
or_made t [] = refl
or_made t (u ∷ us) = ap (λ z. Branch term (more (node t) z)) (items_of_ors (u ∷ us))

pub and_made : (t : PlainTerm) (us : List Term) → node (and_tree t (map view us)) ≡ make conjunction (node t ∷ map and_item us)
and_made t [] = refl
and_made t (u ∷ us) = ap (λ z. Branch conjunction (more (node t) z)) (items_of_ands (u ∷ us))

pub index_made : (t : PlainTerm) (us : List Term) → node (index_tree t (map view us)) ≡ make postfix (node t ∷ map index_item us)
index_made t [] = refl
index_made t (u ∷ us) = ap (λ z. Branch postfix (more (node t) z)) (items_of_indexes (u ∷ us))

pub product_made : (t : PlainTerm) (us : List Factor) → node (product_tree t (map view_factor us)) ≡ make product (node t ∷ map factor_item us)
product_made t [] = refl
product_made t (u ∷ us) = ap (λ z. Branch product (more (node t) z)) (items_of_factors (u ∷ us))

pub sum_made : (t : PlainTerm) (us : List Addend) → node (sum_tree t (map view_addend us)) ≡ make sum (node t ∷ map addend_item us)
sum_made t [] = refl
sum_made t (u ∷ us) = ap (λ z. Branch sum (more (node t) z)) (items_of_addends (u ∷ us))

-- ---- lists whose first item has a form of its own

map_push : {A B : Type 0} (g : A → B) (xs : List A) (x : A) → map g (xs ++ x ∷ []) ≡ map g xs ++ g x ∷ []
map_push g [] x = refl
map_push g (y ∷ xs) x = ap (λ z. g y ∷ z) (map_push g xs x)

pub listed_push : {A B : Type 0} (f g : A → B) (xs : List A) (x : A) → 0 < length xs → listed f g (xs ++ x ∷ []) ≡ listed f g xs ++ g x ∷ []
listed_push f g [] x h = absurd (omega arith)
listed_push f g (y ∷ xs) x h = ap (λ z. f y ∷ z) (map_push g xs x)

statements_items : (ss : List Statement) → statement_nodes (pack_statements (map view_statement ss)) ≡ pack (map statement_part_item ss)
statements_items [] = refl
statements_items (s ∷ ss) = ap (λ z. more (statement_part_item s) z) (statements_items ss)

pub statements_made : (ss : List Statement) → statements_node (view_statements ss) ≡ make statements (listed statement_item statement_part_item ss)
statements_made [] = refl
statements_made (s ∷ ss) = ap (λ z. Branch statements (more (statement_item s) z)) (statements_items ss)

elseif_items : (bs : List Branched) (ns : List Node) → elseif_nodes (pack_branches (map view_branch bs)) (pack ns) ≡ pack (map elseif_item bs ++ ns)
elseif_items [] ns = refl
elseif_items (b ∷ bs) ns = ap (λ z. more (elseif_item b) z) (elseif_items bs ns)

if_items : (bs : List Branched) (ns : List Node) → if_nodes (pack_branches (map view_branch bs)) (pack ns) ≡ pack (listed choice_item elseif_item bs ++ ns)
if_items [] ns = refl
if_items (b ∷ bs) ns = ap (λ z. more (choice_item b) z) (elseif_items bs ns)

pub if_made : (bs : List Branched) → statement_node (If (pack_branches (map view_branch bs)) no_statement) ≡ make statement (key w.If ∷ (listed choice_item elseif_item bs ++ (key w.Fi ∷ [])))
if_made bs = ap (λ z. Branch statement (more (key w.If) z)) (if_items bs (key w.Fi ∷ []))

pub if_else_made : (bs : List Branched) (ss : List Statement) → 0 < length ss
    → statement_node (If (pack_branches (map view_branch bs)) (view_statements ss)) ≡ make statement (key w.If ∷ ((listed choice_item elseif_item bs ++ branch else_part (key w.Else ∷ (statements_node (view_statements ss) ∷ [])) ∷ []) ++ key w.Fi ∷ []))
if_else_made bs [] h = absurd (omega arith)
if_else_made bs (s ∷ ss) h = ap (λ z. Branch statement (more (key w.If) z)) (if_items bs (branch else_part (key w.Else ∷ (statements_node (view_statements (s ∷ ss)) ∷ [])) ∷ (key w.Fi ∷ [])))
    ∙ ap (λ z. make statement (key w.If ∷ z)) (sym (append_assoc (listed choice_item elseif_item bs) (branch else_part (key w.Else ∷ (statements_node (view_statements (s ∷ ss)) ∷ [])) ∷ []) (key w.Fi ∷ [])))

pub names_push : (done : List Node) (xs : List (String Global)) (x : String Global) → 0 < length xs → (done ++ names_nodes xs) ++ name_part_item x ∷ [] ≡ done ++ names_nodes (xs ++ x ∷ [])
names_push done xs x h = append_assoc done (names_nodes xs) (name_part_item x ∷ []) ∙ ap (λ z. done ++ z) (sym (listed_push name_item name_part_item xs x h))

parts_of_parameters : (ps : List Parameter) → parts parameter_part w.Comma parameter_node (map view_parameter ps) ≡ map parameter_part_item ps
parts_of_parameters [] = refl
parts_of_parameters (p ∷ ps) = ap (λ z. parameter_part_item p ∷ z) (parts_of_parameters ps)

pub parameters_listed : (ps : List Parameter) → separated parameter_part w.Comma parameter_node (map view_parameter ps) ≡ listed parameter_item parameter_part_item ps
parameters_listed [] = refl
parameters_listed (p ∷ ps) = ap (λ z. parameter_item p ∷ z) (parts_of_parameters ps)

pub parameters_some : (ps : List Parameter) → 0 < length ps → parameters_node (map view_parameter ps) ≡ parameters_tree (map view_parameter ps) ∷ []
parameters_some [] h = absurd (omega arith)
parameters_some (p ∷ ps) h = refl

pub eff_some : (ss : List Statement) → 0 < length ss → eff_node (view_statements ss) ≡ branch eff_part (key w.Eff ∷ (statements_node (view_statements ss) ∷ [])) ∷ []
eff_some [] h = absurd (omega arith)
eff_some (s ∷ ss) h = refl

pub parts_of_names : (ss : List (String Global)) → parts name_part w.Comma named (map string_bytes ss) ≡ map name_part_item ss
parts_of_names [] = refl
parts_of_names (s ∷ ss) = ap (λ z. name_part_item s ∷ z) (parts_of_names ss)

pub task_made : (ss : List (String Global)) → 0 < length ss → task_node (map string_bytes ss) ≡ branch task ((key w.OpenBrace ∷ names_nodes ss) ++ key w.CloseBrace ∷ [])
task_made [] h = absurd (omega arith)
task_made (s ∷ ss) h = ap (λ z. branch task (key w.OpenBrace ∷ (name_item s ∷ (z ++ key w.CloseBrace ∷ [])))) (parts_of_names ss)

parts_of_arguments : (ts : List Term) → parts argument_part w.Comma node (map view ts) ≡ map argument_item ts
parts_of_arguments [] = refl
parts_of_arguments (t ∷ ts) = ap (λ z. argument_item t ∷ z) (parts_of_arguments ts)

pub arguments_listed : (ts : List Term) → separated argument_part w.Comma node (map view ts) ≡ listed term_item argument_item ts
arguments_listed [] = refl
arguments_listed (t ∷ ts) = ap (λ z. term_item t ∷ z) (parts_of_arguments ts)

pub arguments_some : (ts : List Term) → 0 < length ts → arguments_node (map view ts) ≡ arguments_tree (map view ts) ∷ []
arguments_some [] h = absurd (omega arith)
arguments_some (t ∷ ts) h = refl

pub enumeration_made : (ss : List (String Global)) → 0 < length ss → type_body_node (Enumeration (map string_bytes ss)) ≡ branch type_body (key w.Enumeration ∷ (key w.Of ∷ names_nodes ss))
enumeration_made [] h = absurd (omega arith)
enumeration_made (s ∷ ss) h = ap (λ z. branch type_body (key w.Enumeration ∷ (key w.Of ∷ (name_item s ∷ z)))) (parts_of_names ss)
