use Rattle.std.proofs.Common.{◌≡◌, ◌++◌, ◌+◌, ◌≤◌, drop, map}
use Rattle.ioa_trees.specs.Trees.{pack_branches}
use Rattle.ioa_trees.specs.Views.{view_branch, view_statements}
use Rattle.ioa_trees.specs.EffectRules.{branches_faults, statements_faults}
use Rattle.ioa_trees.specs.Faults.{keep}
use Rattle.ioa_trees.specs.Sizes.{branches_size, statements_size}
use Rattle.ioa_typing.specs.NameViews.{names_tree}
use Rattle.ioa_typing.specs.TermViews.{least_tree}
use Rattle.ioa_entries.specs.EffectLists.{arm_list, effect_list}
use Rattle.ioa_entries.specs.Between.{between}
use Rattle.ioa_entries.specs.StatementParts.{rest_size}
use Rattle.ioa_entries.specs.EffectViews.{arm_tree, done_tree}
use Rattle.ioa_entries.proofs.statements.+checking_statements.Given as goal

abbrev pub invariant-check_each-loop-statement : goal.invariant-check_each-loop-statement
invariant-check_each-loop-statement l = record {
  at : l.progress.at + rest_size l.is_first (view_statements (drop l.statement-index l.statements)) ≡ l.initial.progress.at + statements_size (view_statements l.statements);
  low : l.loops ≤ l.progress.at;
  names : names_tree l.names ≡ names_tree l.initial.names;
  faults : keep (least_tree l.progress.least) (statements_faults (names_tree l.initial.names) l.loops (l.progress.at + between l.is_first) (view_statements (drop l.statement-index l.statements)))
      ≡ keep (least_tree l.initial.progress.least) (statements_faults (names_tree l.initial.names) l.loops l.initial.progress.at (view_statements l.statements));
  effects : map done_tree l.effects.items ++ effect_list (names_tree l.initial.names) l.loops (view_statements (drop l.statement-index l.statements))
      ≡ effect_list (names_tree l.initial.names) l.loops (view_statements l.statements);
}

abbrev pub invariant-check_branches-loop-branch : goal.invariant-check_branches-loop-branch
invariant-check_branches-loop-branch l = record {
  at : l.progress.at + branches_size (pack_branches (map view_branch (drop l.branch-index l.branches))) ≡ l.initial.progress.at + branches_size (pack_branches (map view_branch l.branches));
  low : l.loops ≤ l.progress.at;
  names : names_tree l.names ≡ names_tree l.initial.names;
  faults : keep (least_tree l.progress.least) (branches_faults (names_tree l.initial.names) l.loops l.progress.at (pack_branches (map view_branch (drop l.branch-index l.branches))))
      ≡ keep (least_tree l.initial.progress.least) (branches_faults (names_tree l.initial.names) l.loops l.initial.progress.at (pack_branches (map view_branch l.branches)));
  arms : map arm_tree l.arms.items ++ arm_list (names_tree l.initial.names) l.loops (pack_branches (map view_branch (drop l.branch-index l.branches)))
      ≡ arm_list (names_tree l.initial.names) l.loops (pack_branches (map view_branch l.branches));
}
