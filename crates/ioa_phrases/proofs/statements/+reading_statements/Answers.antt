use Rattle.std.proofs.Common.{◌+◌, sym, ◌∙◌, ap, map, [], ◌∷◌, ◌++◌, true}
use Rattle.ioa_tokens.specs.declared.Word.TheVariants as w
use Rattle.ioa_tokens.specs.Tokens.{toks_of}
use Rattle.ioa_trees.specs.Nodes.{statement, statements, else_part}
use Rattle.ioa_trees.specs.Grammar.{maybe, token, word, outside, inside}
use Rattle.ioa_phrases.specs.Machine.{In, At, go, have}
use Rattle.ioa_trees.specs.Trees.{If, pack_branches}
use Rattle.ioa_trees.specs.Spelling.{branch, key, statement_node, statements_node}
use Rattle.ioa_phrases.specs.Items.{listed, statement_item, statement_part_item, choice_item, elseif_item}
use Rattle.ioa_trees.specs.Views.{view_branch, view_statements}
use Rattle.ioa_phrases.proofs.Moves.{no_statement_part, no_else_part}
use Rattle.ioa_phrases.proofs.Items.{statements_made, if_made, if_else_made}
use Rattle.ioa_phrases.proofs.statements.+reading_statements.Goals as goal

pub read_statements-returns-clause-gives : goal.read_statements-returns-clause-gives
read_statements-returns-clause-gives t c = λ k d.
    let all = c.loop-after.all.items in
    let rest = toks_of c.loop-after.rest.now in
    c.loop-after.invariant.reads k d
    ∙ (no_statement_part statements (listed statement_item statement_part_item all) outside [] k rest c.in_default.ensures.cases
    ∙ ap (λ z. go true (have z k) rest) (sym (statements_made all)))

pub read_else-returns-in-Some-clause-gives : goal.read_else-returns-in-Some-clause-gives
read_else-returns-in-Some-clause-gives t c = λ k d.
    let bs = c.args.branches.items in
    let ss = c.in_ok-otherwise.otherwise.items in
    let so = key w.If ∷ listed choice_item elseif_item bs in
    let fi = token (word w.Fi) outside ∷ [] in
    let with_else = so ++ branch else_part (key w.Else ∷ (statements_node (view_statements ss) ∷ [])) ∷ [] in
    ap (λ z. go true (At statement so (maybe else_part inside ∷ fi) k) z) c.in-Some.ensures.cases
    ∙ (c.in_ok-otherwise.ensures.gives (In else_part (key w.Else ∷ []) [] outside (In statement so fi inside k)) (ap (λ z. z + 1) d)
    ∙ (ap (λ z. go true (At statement with_else fi k) z) c.in_ok-rest.ensures.cases
    ∙ ap (λ z. go true (have z k) (toks_of c.in_ok-rest.rest.now)) (sym (ap statement_node c.if_of.ensures ∙ if_else_made bs ss c.in_ok-otherwise.ensures.some))))

pub read_else-returns-clause-gives : goal.read_else-returns-clause-gives
read_else-returns-clause-gives t c = λ k d.
    let bs = c.args.branches.items in
    let so = key w.If ∷ listed choice_item elseif_item bs in
    let fi = token (word w.Fi) outside ∷ [] in
    no_else_part statement so inside fi k (toks_of c.args.tokens.now) c.in_default.ensures.cases
    ∙ (ap (λ z. go true (At statement so fi k) z) c.in_ok-rest-2.ensures.cases
    ∙ ap (λ z. go true (have z k) (toks_of c.in_ok-rest-2.rest.now))
    (sym (ap statement_node (c.if_of-2.ensures ∙ ap (λ z. If (pack_branches (map view_branch bs)) (view_statements z)) c.new-nothing.ensures.items) ∙ if_made bs)))
