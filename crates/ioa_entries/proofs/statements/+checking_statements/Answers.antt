use Rattle.std.proofs.Common.{rules, arith, ◌≡◌, ◌+◌, ◌++◌, drop, map, take, ap, sym, ◌∙◌}
use Rattle.ioa_trees.specs.Trees.{If, more_branches, more_statements, pack_branches}
use Rattle.ioa_trees.specs.Views.{view, view_branch, view_declared, view_statement, view_statements}
use Rattle.ioa_trees.specs.EffectRules.{branches_faults, effect_of, effects_of, in_loop, statement_faults, statements_faults}
use Rattle.ioa_trees.specs.Faults.{keep}
use Rattle.ioa_trees.specs.Sizes.{branches_size, later_size, statement_size, statements_size}
use Rattle.ioa_trees.specs.Scopes.{OfLoop}
use Rattle.ioa_trees.specs.TypeRules.{kind_of}
use Rattle.ioa_typing.specs.NameViews.{names_tree}
use Rattle.ioa_typing.specs.TermViews.{least_tree}
use Rattle.ioa_entries.specs.EffectLists.{arm_list, choice, effect_list}
use Rattle.ioa_entries.specs.Between.{between}
use Rattle.ioa_entries.specs.StatementParts.{arm_of, branch_faults, branch_size, rest_size}
use Rattle.ioa_entries.specs.EffectViews.{arm_tree, done_tree}
use Rattle.ioa_entries.proofs.Chained.{choice_is}
use Rattle.ioa_entries.proofs.StatementParts.{branch_kept, branch_noted, if_noted, loop_noted, rest_sized, seen_branch, seen_if, statement_kept, take_declare}
use Rattle.ioa_typing.proofs.Items.{drop_at, push_step}
use Rattle.ioa_entries.proofs.statements.+checking_statements.Goals as goal

pub check_branch-returns-clause-faults : goal.check_branch-returns-clause-faults
check_branch-returns-clause-faults t c =
    let b = view_branch c.args.branch.now in
    let is : b ≡ (view c.args.branch.now.test, view_statements c.args.branch.now.body.items) = seen_branch c.args.branch.now in
    let test : b.0 ≡ view c.args.branch.now.test = ap (λ x. x.0) is in
    let body : b.1 ≡ view_statements c.args.branch.now.body.items = ap (λ x. x.1) is in
    branch_noted (names_tree c.args.names.now) c.args.loops c.args.progress.now.at (c.check_term.new.progress.at + 1) b
    (least_tree c.args.progress.now.least) (least_tree c.check_term.new.progress.least) (least_tree c.note_unless_truth.new.progress.least) (least_tree c.check_statements.new.progress.least)
    (rw test (search rules)) (rw test (search rules)) (rw body (search rules)) (rw test (search (rules, arith)))

pub check_branches-loop-branch-preserved : goal.check_branches-loop-branch-preserved
check_branches-loop-branch-preserved t c =
    let s = names_tree c.args.names.now in
    let n = c.args.loops in
    let l = c.loop-branch in
    let b = view_branch c.branch-item.result in
    let left = pack_branches (map view_branch (drop (l.branch-index + 1) c.args.branches.now)) in
    let split : pack_branches (map view_branch (drop l.branch-index c.args.branches.now)) ≡ more_branches b.0 b.1 left = ap (λ xs. pack_branches (map view_branch xs)) (drop_at c.args.branches.now l.branch-index c.branch-item.result c.branch-item.is c.loop-branch-test.true) in
    let at : l.progress.at + branches_size (more_branches b.0 b.1 left) ≡ c.args.progress.now.at + branches_size (pack_branches (map view_branch c.args.branches.now)) = ap (λ r. l.progress.at + branches_size r) (sym split) ∙ l.invariant.at in
    let after : c.check_branch.new.progress.at ≡ l.progress.at + branch_size b = c.in_ok-arm.ensures.at in
    let noted : least_tree c.check_branch.new.progress.least ≡ keep (least_tree l.progress.least) (branch_faults s n l.progress.at b) = c.in_ok-arm.ensures.faults ∙ ap (λ x. keep (least_tree l.progress.least) (branch_faults x n l.progress.at b)) l.invariant.names in
    let arm : arm_tree c.in_ok-arm.arm ≡ arm_of s n b = c.in_ok-arm.ensures.arm ∙ ap (λ x. arm_of x n b) l.invariant.names in
    record {
      at = omega (arith, at, after);
      low = omega (arith, after, l.invariant.low);
      names = c.in_ok-arm.ensures.names ∙ l.invariant.names;
      faults = branch_kept s n l.progress.at c.check_branch.new.progress.at b left (least_tree l.progress.least) (least_tree c.check_branch.new.progress.least) noted after ∙ ap (λ r. keep (least_tree l.progress.least) (branches_faults s n l.progress.at r)) (sym split) ∙ l.invariant.faults;
      arms = push_step arm_tree l.arms.items _ c.in_ok-arm.arm (arm_of s n b) (arm_list s n left) _ c.in_ok-push.ensures.items arm (ap (λ r. map arm_tree l.arms.items ++ arm_list s n r) (sym split) ∙ l.invariant.arms);
    }

pub check_each-loop-statement-preserved : goal.check_each-loop-statement-preserved
check_each-loop-statement-preserved t c =
    let s = names_tree c.args.names.now in
    let n = c.args.loops in
    let l = c.loop-statement in
    let place = l.progress.at + between l.is_first in
    let a = view_statement c.statement-item.result in
    let left = view_statements (drop (l.statement-index + 1) c.args.statements.now) in
    let split : view_statements (drop l.statement-index c.args.statements.now) ≡ more_statements a left = ap view_statements (drop_at c.args.statements.now l.statement-index c.statement-item.result c.statement-item.is c.loop-statement-test.true) in
    let at : l.progress.at + rest_size l.is_first (more_statements a left) ≡ c.args.progress.now.at + statements_size (view_statements c.args.statements.now) = ap (λ r. l.progress.at + rest_size l.is_first r) (sym split) ∙ l.invariant.at in
    let after : c.check_statement.new.progress.at ≡ place + statement_size a = search rules in
    let sized : l.progress.at + rest_size l.is_first (more_statements a left) ≡ place + statement_size a + later_size left = rest_sized l.is_first l.progress.at a left in
    let noted : least_tree c.check_statement.new.progress.least ≡ keep (least_tree l.progress.least) (statement_faults s n place a) = search rules in
    let done : done_tree c.in_ok-effect.effect ≡ effect_of s n a = c.in_ok-effect.ensures.effect ∙ ap (λ x. effect_of x n a) l.invariant.names in
    record {
      at = omega (arith, at, after, sized);
      low = omega (arith, after, l.invariant.low);
      names = c.in_ok-effect.ensures.names ∙ l.invariant.names;
      faults = statement_kept s n place c.check_statement.new.progress.at a left (least_tree l.progress.least) (least_tree c.check_statement.new.progress.least) noted after ∙ ap (λ r. keep (least_tree l.progress.least) (statements_faults s n place r)) (sym split) ∙ l.invariant.faults;
      effects = push_step done_tree l.effects.items _ c.in_ok-effect.effect (effect_of s n a) (effect_list s n left) _ c.in_ok-push.ensures.items done (ap (λ r. map done_tree l.effects.items ++ effect_list s n r) (sym split) ∙ l.invariant.effects);
    }

pub check_statement-returns-in_ok-effect-in-If-clause-faults : goal.check_statement-returns-in_ok-effect-in-If-clause-faults
check_statement-returns-in_ok-effect-in-If-clause-faults t c =
    let s = names_tree c.args.names.now in
    let n = c.args.loops in
    let bs = pack_branches (map view_branch c.in-If.branches.items) in
    let ss = view_statements c.in-If.others.items in
    let is : view_statement c.args.statement.now ≡ If bs ss = ap view_statement c.in-If.is ∙ seen_if c.in-If.branches c.in-If.others in
    let middle = c.check_branches.new.progress in
    rw is (if_noted s n c.args.progress.now.at middle.at bs ss (least_tree c.args.progress.now.least) (least_tree middle.least) (least_tree c.check_statements.new.progress.least) (search rules) (search rules) (search rules))

pub check_statement-returns-in_ok-effect-in-If-clause-effect : goal.check_statement-returns-in_ok-effect-in-If-clause-effect
check_statement-returns-in_ok-effect-in-If-clause-effect t c =
    let s = names_tree c.args.names.now in
    let n = c.args.loops in
    let bs = pack_branches (map view_branch c.in-If.branches.items) in
    let ss = view_statements c.in-If.others.items in
    let is : view_statement c.args.statement.now ≡ If bs ss = ap view_statement c.in-If.is ∙ seen_if c.in-If.branches c.in-If.others in
    let arms : map arm_tree c.in_ok-arms-in-If.arms.items ≡ arm_list s n bs = search rules in
    let otherwise : done_tree c.in_ok-otherwise-in-If.otherwise ≡ effects_of s n ss = search rules in
    rw is (c.in_ok-effect-in-If.ensures ∙ ap (λ x. choice x (done_tree c.in_ok-otherwise-in-If.otherwise)) arms ∙ ap (λ x. choice (arm_list s n bs) x) otherwise ∙ choice_is s n bs (effects_of s n ss))

pub check_loop-returns-clause-names : goal.check_loop-returns-clause-names
check_loop-returns-clause-names t c =
    let s = names_tree c.args.names.now in
    let d = view_declared c.args.declared.now in
    let inside : names_tree c.check_statements.new.names ≡ in_loop s c.args.loops d = c.in_ok-inside.ensures.names ∙ c.in_ok-members.ensures.names in
    c.truncate.ensures ∙ ap (λ x. take c.len-len.result x) inside ∙ ap (λ k. take k (in_loop s c.args.loops d)) c.len-len.ensures ∙ take_declare d.name (OfLoop c.args.loops (kind_of s d.of)) s

pub check_loop-returns-clause-faults : goal.check_loop-returns-clause-faults
check_loop-returns-clause-faults t c =
    let middle = c.check_head.new.progress in
    loop_noted (names_tree c.args.names.now) c.args.loops c.args.progress.now.at middle.at (view_declared c.args.declared.now) (view_statements c.args.body.now) (least_tree c.args.progress.now.least) (least_tree middle.least) _ (search rules) (search rules) (search rules)
