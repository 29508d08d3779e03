-- The tokens of the parts of a tree, put one after the other.
use Rattle.std.proofs.Common.{◌≡◌, ◌++◌, ◌==◌, true, false, List, [], ◌∷◌, length, Vec, Global, rules, refl, ap, sym, ◌∙◌, map}
use Rattle.std.proofs.lemmas.List.{append_assoc, append-nil}
use Rattle.ioa_tokens.specs.declared.Word.TheVariants as w
use Rattle.ioa_tokens.specs.Tokens.{Tok, Key, Name}
use Rattle.ioa_trees.specs.Nodes.{name_part, variable_part, pack, yield, yields, yield_nodes}
use Rattle.ioa_trees.specs.Trees.{Bytes, PlainAutomaton, PlainVariable, PlainSource, PlainTerm, PlainDeclared, PlainStatements, PlainStatement, For, If}
use Rattle.ioa_trees.specs.Spelling.{key, named, parts, composed_nodes, hidden_node, variable_node, task_node, tasks_node, body_nodes, formals_nodes, states_node, basic_node, next_name, further_nodes, automata_nodes, type_definition_node, source_nodes, spell, statement_node, statements_node, if_nodes, else_nodes}
use Rattle.ioa_printer.proofs.Yields.{yields_pack, yields_append}
use Rattle.ioa_printer.specs.Printed.{loop_toks, head_nodes, behaviour_nodes, automata_toks}
use Rattle.std.specs.Prelude.{string_bytes}
use Rattle.ioa_trees.specs.declared.tree.Declared.{Declared}
use Rattle.ioa_trees.specs.declared.tree.Automaton.{Automaton}
use Rattle.ioa_trees.specs.declared.tree.TypeDefinition.{TypeDefinition}
use Rattle.ioa_trees.specs.declared.tree.SourceTree.{SourceTree}
use Rattle.ioa_trees.specs.declared.tree.Statement.{Statement}
use Rattle.ioa_trees.specs.declared.tree.Branch.{Branch}
use Rattle.ioa_trees.specs.declared.tree.Statement.TheOpen as open_statement
use Rattle.ioa_trees.specs.declared.tree.Statement.TheViews as made
use Rattle.ioa_trees.specs.declared.tree.Statement.TheVariants.{rolls-If, rolls-For}
use Rattle.ioa_trees.specs.declared.tree.Statement.TheFolds.{fold-roll-Statement}
use Rattle.ioa_trees.specs.Trees.{pack_branches}
use Rattle.ioa_trees.specs.Views.{view_automaton, view_type_definition, view_composed, view_source, view_declared, view_branch, view_statement, view_statements, statement_step, branch_step}

-- a `for`, its body and `od`
for_laid : (page : List Tok) (d : PlainDeclared) (ss : PlainStatements) → ((page ++ loop_toks d) ++ yield (statements_node ss)) ++ Key w.Od ∷ [] ≡ page ++ yield (statement_node (For d ss))
for_laid page d ss = simp append_assoc

-- how a `for` and an `if` are seen
pub seen_for : (d : Declared) (b : Vec Statement Global) → view_statement (made.For d b) ≡ For (view_declared d) (view_statements b.items)
seen_for d b = ap view_statement (sym (rolls-For d b)) ∙ fold-roll-Statement PlainStatement (PlainTerm × PlainStatements) statement_step branch_step (open_statement.For d b)

pub seen_if : (bs : Vec Branch Global) (ss : Vec Statement Global) → view_statement (made.If bs ss) ≡ If (pack_branches (map view_branch bs.items)) (view_statements ss.items)
seen_if bs ss = ap view_statement (sym (rolls-If bs ss)) ∙ fold-roll-Statement PlainStatement (PlainTerm × PlainStatements) statement_step branch_step (open_statement.If bs ss)

-- a `for`, step by step
pub for_put : (p q r s : List Tok) (d : PlainDeclared) (xs ys : List Statement) → ys ≡ xs →
    q ≡ p ++ loop_toks d → r ≡ q ++ yield (statements_node (view_statements ys)) → s ≡ r ++ Key w.Od ∷ [] → s ≡ p ++ yield (statement_node (For d (view_statements xs)))
for_put p q r s d xs ys is e f g =
    g ∙ ap (λ x. x ++ Key w.Od ∷ []) (f ∙ ap (λ x. x ++ yield (statements_node (view_statements ys))) e ∙ ap (λ zs. (p ++ loop_toks d) ++ yield (statements_node (view_statements zs))) is) ∙ for_laid p d (view_statements xs)

-- no `else`
pub no_else : (p q r : List Tok) (xs : List Statement) → true ≡ (length xs == 0) → q ≡ p → r ≡ q ++ Key w.Fi ∷ [] → r ≡ p ++ yield_nodes (else_nodes (view_statements xs))
no_else p q r [] e f g = g ∙ ap (λ x. x ++ Key w.Fi ∷ []) f
no_else p q r (x ∷ xs) e f g = search rules

-- an `else`, step by step
pub else_put : (p q r s t : List Tok) (xs ys : List Statement) → ys ≡ xs → false ≡ (length xs == 0) →
    q ≡ p ++ Key w.Else ∷ [] → r ≡ q ++ yield (statements_node (view_statements ys)) → s ≡ r → t ≡ s ++ Key w.Fi ∷ [] →
    t ≡ p ++ yield_nodes (else_nodes (view_statements xs))
else_put p q r s t [] ys is e f g h i = search rules
else_put p q r s t (x ∷ xs) ys is e f g h i =
    i ∙ ap (λ y. y ++ Key w.Fi ∷ []) (h ∙ g ∙ ap (λ y. y ++ yield (statements_node (view_statements ys))) f ∙ ap (λ zs. (p ++ Key w.Else ∷ []) ++ yield (statements_node (view_statements zs))) is) ∙ simp (append_assoc, append-nil)

-- `if`, the branches, and what follows them
pub if_put : (p q r s : List Tok) (bs cs : List Branch) → cs ≡ bs → (ss : PlainStatements) → q ≡ p ++ Key w.If ∷ [] →
    r ++ yield_nodes (else_nodes ss) ≡ q ++ yield_nodes (if_nodes (pack_branches (map view_branch cs)) (else_nodes ss)) → s ≡ r ++ yield_nodes (else_nodes ss) →
    s ≡ p ++ yield (statement_node (If (pack_branches (map view_branch bs)) ss))
if_put p q r s bs cs is ss e f g =
    let laid : List Branch → List Tok = λ xs. yield_nodes (if_nodes (pack_branches (map view_branch xs)) (else_nodes ss)) in
    g ∙ f ∙ ap (λ x. x ++ laid cs) e ∙ ap (λ xs. (p ++ Key w.If ∷ []) ++ laid xs) is ∙ append_assoc p (Key w.If ∷ []) (laid bs)

-- an automaton without its name: its head, and what it does
basic_laid : (p : List Tok) (a : PlainAutomaton) → (p ++ yields (head_nodes a)) ++ yields (behaviour_nodes a) ≡ p ++ yield (basic_node a)
basic_laid p a = append_assoc p (yields (head_nodes a)) (yields (behaviour_nodes a)) ∙ ap (λ z. p ++ z) (sym laid)
  where
    laid : yield (basic_node a) ≡ yields (head_nodes a) ++ yields (behaviour_nodes a)
    laid = yields_pack (formals_nodes a.formals ++ (key w.Signature ∷ body_nodes a)) ∙ simp (yields_append, append_assoc)

-- an automaton without its name, step by step
pub basic_put : (p q r : List Tok) (a : PlainAutomaton) → q ≡ p ++ yields (head_nodes a) → r ≡ q ++ yields (behaviour_nodes a) → r ≡ p ++ yield (basic_node a)
basic_put p q r a e f = f ∙ ap (λ z. z ++ yields (behaviour_nodes a)) e ∙ basic_laid p a

-- The name of the next automaton stands behind the one before it: each may be laid behind its own name, with the last name at the end.
further_laid : (rest : List PlainAutomaton) (s : Bytes) →
    Key w.Automaton ∷ (Name (next_name rest s) ∷ yields (further_nodes rest s)) ≡ automata_toks rest ++ Key w.Automaton ∷ (Name s ∷ [])
further_laid [] s = refl
further_laid (a ∷ rest) s =
    ap (λ z. Key w.Automaton ∷ (Name a.name ∷ z)) (
    append_assoc (yield (basic_node a)) (Key w.Automaton ∷ (Name (next_name rest s) ∷ [])) (yields (further_nodes rest s))
    ∙ ap (λ z. yield (basic_node a) ++ z) (further_laid rest s)
    ∙ sym (append_assoc (yield (basic_node a)) (automata_toks rest) (Key w.Automaton ∷ (Name s ∷ []))))

pub automata_laid : (a : PlainAutomaton) (rest : List PlainAutomaton) (s : Bytes) →
    yields (automata_nodes (a ∷ rest) s) ≡ automata_toks (a ∷ rest) ++ Key w.Automaton ∷ (Name s ∷ [])
automata_laid a rest s =
    ap (λ z. Key w.Automaton ∷ (Name a.name ∷ z)) (
    ap (λ z. yield (basic_node a) ++ z) (further_laid rest s)
    ∙ sym (append_assoc (yield (basic_node a)) (automata_toks rest) (Key w.Automaton ∷ (Name s ∷ []))))

-- type definitions, automata, and the composed one
source_laid : (p : List Tok) (s : PlainSource) →
    ((p ++ yields (map type_definition_node s.types)) ++ yields (automata_nodes s.automata s.composed.name)) ++ yields (composed_nodes s.composed) ≡ p ++ spell s
source_laid p s =
    append_assoc (p ++ types) automata (yields (composed_nodes s.composed)) ∙ append_assoc p types (automata ++ yields (composed_nodes s.composed)) ∙ ap (λ z. p ++ z) (sym laid)
  where
    types : List Tok
    types = yields (map type_definition_node s.types)

    automata : List Tok
    automata = yields (automata_nodes s.automata s.composed.name)

    laid : spell s ≡ yields (map type_definition_node s.types) ++ (yields (automata_nodes s.automata s.composed.name) ++ yields (composed_nodes s.composed))
    laid = yields_pack (source_nodes s) ∙ simp yields_append

-- a source, step by step
pub source_put : (p q r s : List Tok) (x : SourceTree) (ds : List TypeDefinition) (xs : List Automaton) (n : Bytes) →
    ds ≡ x.types.items → xs ≡ x.automata.items → n ≡ string_bytes x.composed.name →
    q ≡ p ++ yields (map type_definition_node (map view_type_definition ds)) → r ≡ q ++ yields (automata_nodes (map view_automaton xs) n) →
    s ≡ r ++ yields (composed_nodes (view_composed x.composed)) → s ≡ p ++ spell (view_source x)
source_put p q r s x ds xs n d e f g h i =
    let typed = g ∙ ap (λ z. p ++ yields (map type_definition_node (map view_type_definition z))) d in
    let named = h ∙ ap (λ z. q ++ yields (automata_nodes (map view_automaton z) n)) e ∙ ap (λ z. q ++ yields (automata_nodes (map view_automaton x.automata.items) z)) f in
    i ∙ ap (λ z. z ++ yields (composed_nodes (view_composed x.composed))) (named ∙ ap (λ z. z ++ yields (automata_nodes (map view_automaton x.automata.items) (string_bytes x.composed.name))) typed)
    ∙ source_laid p (view_source x)

-- `states` and the variables
states_laid : (v : PlainVariable) (vs : List PlainVariable) →
    yields (states_node (v ∷ vs)) ≡ Key w.States ∷ (yield (variable_node v) ++ yields (parts variable_part w.Comma variable_node vs))
states_laid v vs =
    let others = parts variable_part w.Comma variable_node vs in
    append-nil (Key w.States ∷ (yield (variable_node v) ++ yield_nodes (pack others))) ∙ ap (λ z. Key w.States ∷ (yield (variable_node v) ++ z)) (yields_pack others)

-- `tasks` and the tasks
pub tasks_laid : (t : List Bytes) (ts : List (List Bytes)) → yields (tasks_node (t ∷ ts)) ≡ Key w.Tasks ∷ yields (map task_node (t ∷ ts))
tasks_laid t ts =
    append-nil (Key w.Tasks ∷ (yield (task_node t) ++ yield_nodes (pack (map task_node ts)))) ∙ ap (λ z. Key w.Tasks ∷ (yield (task_node t) ++ z)) (yields_pack (map task_node ts))

-- `hidden` and the names
hidden_laid : (s : Bytes) (ss : List Bytes) → yields (hidden_node (s ∷ ss)) ≡ Key w.Hidden ∷ (Name s ∷ yields (parts name_part w.Comma named ss))
hidden_laid s ss =
    let others = parts name_part w.Comma named ss in
    append-nil (Key w.Hidden ∷ (Name s ∷ yield_nodes (pack others))) ∙ ap (λ z. Key w.Hidden ∷ (Name s ∷ z)) (yields_pack others)

-- the hidden outputs, step by step
pub hidden_put : (p q r s : List Tok) (all : List Bytes) (n : Bytes) (ns : List Bytes) → all ≡ n ∷ ns →
    q ≡ p ++ Key w.Hidden ∷ [] → r ≡ q ++ Name n ∷ [] → s ≡ r ++ yields (parts name_part w.Comma named ns) → s ≡ p ++ yields (hidden_node all)
hidden_put p q r s all n ns is e f g =
    let others = yields (parts name_part w.Comma named ns) in
    g ∙ ap (λ z. z ++ others) (f ∙ ap (λ z. z ++ Name n ∷ []) e)
    ∙ append_assoc (p ++ Key w.Hidden ∷ []) (Name n ∷ []) others
    ∙ append_assoc p (Key w.Hidden ∷ []) (Name n ∷ others)
    ∙ ap (λ z. p ++ z) (sym (hidden_laid n ns))
    ∙ ap (λ ns. p ++ yields (hidden_node ns)) (sym is)

-- the variables of a state, step by step
pub states_put : (p q r s : List Tok) (all : List PlainVariable) (v : PlainVariable) (vs : List PlainVariable) → all ≡ v ∷ vs →
    q ≡ p ++ Key w.States ∷ [] → r ≡ q ++ yield (variable_node v) → s ≡ r ++ yields (parts variable_part w.Comma variable_node vs) →
    s ≡ p ++ yields (states_node all)
states_put p q r s all v vs is e f g =
    let others = yields (parts variable_part w.Comma variable_node vs) in
    g ∙ ap (λ z. z ++ others) (f ∙ ap (λ z. z ++ yield (variable_node v)) e)
    ∙ append_assoc (p ++ Key w.States ∷ []) (yield (variable_node v)) others
    ∙ append_assoc p (Key w.States ∷ []) (yield (variable_node v) ++ others)
    ∙ ap (λ z. p ++ z) (sym (states_laid v vs))
    ∙ ap (λ vs. p ++ yields (states_node vs)) (sym is)
