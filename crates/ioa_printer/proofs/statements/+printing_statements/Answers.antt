use Rattle.std.proofs.Common.{rules, ◌≡◌, ◌++◌, ◌==◌, ap, sym, ◌∙◌, subst}
use Rattle.ioa_trees.specs.Nodes.{yield, yield_nodes}
use Rattle.ioa_trees.specs.Spelling.{statement_node, else_nodes}
use Rattle.ioa_trees.specs.Views.{view_statement, view_statements}
use Rattle.ioa_printer.proofs.Printed.{seen_for, seen_if, for_put, if_put, else_put, no_else}
use Rattle.ioa_printer.proofs.statements.+printing_statements.Goals as goal
use Rattle.ioa_printer.proofs.statements.+printing_statements.Goals.{put_statement-then-not-is_empty+in_ok-put_word-in-If-2+in_ok-put_statements-in-If, put_statement-else-not-is_empty}

pub put_statement-returns-in_ok-put_word-in-If-3 :
    goal.put_statement-returns-in_ok-put_word-in-If-3
put_statement-returns-in_ok-put_word-in-If-3 t c =
    let seen = ap view_statement c.in-If.is ∙ seen_if c.in-If.branches c.in-If.others in
    let others = view_statements c.in-If.others.items in
    let laid : c.put_word-in-If.new.self ≡ c.put_branches.new.page ++ yield_nodes (else_nodes others) = elim c.if-not-is_empty.branch [
      | put_statement-then-not-is_empty+in_ok-put_word-in-If-2+in_ok-put_statements-in-If w ↦
          else_put _ _ _ _ _ c.in-If.others.items _ w.as_slice-then-not-is_empty.ensures.value (w.if-not-is_empty.ensures ∙ ap (λ n. n == 0) (search rules)) w.in_ok-put_word-in-If-2.ensures w.in_ok-put_statements-in-If.ensures w.page-is c.in_ok-put_word-in-If-3.ensures
      | put_statement-else-not-is_empty w ↦
          no_else _ _ _ c.in-If.others.items (w.if-not-is_empty.ensures ∙ ap (λ n. n == 0) (search rules)) w.page-is c.in_ok-put_word-in-If-3.ensures
    ] in
    subst (λ s. c.put_word-in-If.new.self ≡ c.args.page.now ++ yield (statement_node s)) (sym seen)
    (if_put _ _ _ _ c.in-If.branches.items _ c.as_slice.ensures.value others c.in_ok-put_word-in-If.ensures (c.in_ok-put_branches-in-If.ensures (else_nodes others)) laid)

pub put_statement-returns-in_ok-put_word-in-For : goal.put_statement-returns-in_ok-put_word-in-For
put_statement-returns-in_ok-put_word-in-For t c =
    let seen = ap view_statement c.in-For.is ∙ seen_for c.in-For.declared c.in-For.body in
    subst (λ s. c.put_word-in-For.new.self ≡ c.args.page.now ++ yield (statement_node s)) (sym seen)
    (for_put _ _ _ _ _ c.in-For.body.items _ c.as_slice-in-For.ensures.value c.in_ok-put_loop-in-For.ensures c.in_ok-put_statements-in-For.ensures c.in_ok-put_word-in-For.ensures)
