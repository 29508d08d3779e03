use Rattle.std.proofs.Common.{rules, ◌≡◌, ◌+◌, ◌||◌, [], ◌∷◌, ◌++◌, bytes_eq, drop, map, ap, sym, ◌∙◌}
use Rattle.std.specs.List.{list_any}
use Rattle.ioa_trees.specs.Trees.{If, pack_branches}
use Rattle.ioa_trees.specs.Views.{view_branch, view_declared, view_statement, view_statements}
use Rattle.ioa_trees.specs.AutomatonRules.{all_loops, loops_in, loops_of}
use Rattle.ioa_check.specs.Sets.{Adds}
use Rattle.ioa_check.specs.AutomatonViews.{used_names}
use Rattle.ioa_typing.proofs.Items.{drop_at}
use Rattle.ioa_check.proofs.Lists.{added_both, some_added}
use Rattle.ioa_entries.proofs.StatementParts.{seen_if}
use Rattle.ioa_check.proofs.locals.+using_loops.Goals as goal

pub use_branches-loop-branch-preserved : goal.use_branches-loop-branch-preserved
use_branches-loop-branch-preserved t c =
    let l = c.loop-branch in
    let before = used_names l.used in
    let after = used_names c.use_branch.new.used in
    let x = c.branch-item.result in
    let others = drop (l.branch-index + 1) c.args.branches.now in
    let split : loops_in (pack_branches (map view_branch (drop l.branch-index c.args.branches.now))) ≡ all_loops (view_branch x).1 ++ loops_in (pack_branches (map view_branch others)) = ap (λ xs. loops_in (pack_branches (map view_branch xs))) (drop_at c.args.branches.now l.branch-index x c.branch-item.is c.loop-branch-test.true) in
    let adds : Adds after (all_loops (view_branch x).1) before = search rules in
    λ r. some_added (all_loops (view_branch x).1) r (loops_in (pack_branches (map view_branch others))) after before _ (adds r) (ap (λ xs. list_any (bytes_eq r) xs || list_any (bytes_eq r) before) (sym split) ∙ l.invariant r)

pub use_loops-loop-statement-preserved : goal.use_loops-loop-statement-preserved
use_loops-loop-statement-preserved t c =
    let l = c.loop-statement in
    let before = used_names l.used in
    let after = used_names c.use_statement.new.used in
    let x = c.statement-item.result in
    let others = drop (l.statement-index + 1) c.args.statements.now in
    let split : all_loops (view_statements (drop l.statement-index c.args.statements.now)) ≡ loops_of (view_statement x) ++ all_loops (view_statements others) = ap (λ xs. all_loops (view_statements xs)) (drop_at c.args.statements.now l.statement-index x c.statement-item.is c.loop-statement-test.true) in
    let adds : Adds after (loops_of (view_statement x)) before = search rules in
    λ r. some_added (loops_of (view_statement x)) r (all_loops (view_statements others)) after before _ (adds r) (ap (λ xs. list_any (bytes_eq r) xs || list_any (bytes_eq r) before) (sym split) ∙ l.invariant r)

pub use_statement-returns-in_ok-use_loops-in-If : goal.use_statement-returns-in_ok-use_loops-in-If
use_statement-returns-in_ok-use_loops-in-If t c =
    let bs = pack_branches (map view_branch c.in-If.branches.items) in
    let ss = view_statements c.in-If.others.items in
    let before = used_names c.args.used.now in
    let middle = used_names c.use_branches.new.used in
    let last = used_names c.use_loops.new.used in
    let is : view_statement c.args.statement.now ≡ If bs ss = ap view_statement c.in-If.is ∙ seen_if c.in-If.branches c.in-If.others in
    let one : Adds middle (loops_in bs) before = search rules in
    let two : Adds last (all_loops ss) middle = search rules in
    λ q. added_both last middle before (loops_in bs) (all_loops ss) one two q ∙ ap (λ s. list_any (bytes_eq q) (loops_of s) || list_any (bytes_eq q) before) (sym is)

pub use_loop-returns : goal.use_loop-returns
use_loop-returns t c =
    let d = view_declared c.args.declared.now in
    let ss = view_statements c.args.body.now in
    added_both (used_names c.use_loops.new.used) (used_names c.use_name.new.used) (used_names c.args.used.now) (d.name ∷ []) (all_loops ss) c.in_ok-use_name.ensures c.in_ok-use_loops.ensures
