use Rattle.std.proofs.Common.{◌≡◌, ℕ, ◌||◌, bytes_eq, List, drop, map}
use Rattle.std.specs.List.{list_any}
use Rattle.ioa_trees.specs.Trees.{pack_branches}
use Rattle.ioa_trees.specs.Views.{view_branch, view_statements}
use Rattle.ioa_trees.specs.AutomatonRules.{all_loops, loops_in}
use Rattle.ioa_check.specs.AutomatonViews.{used_names}
use Rattle.ioa_check.proofs.locals.+using_loops.Given as goal

abbrev pub invariant-use_branches-loop-branch : goal.invariant-use_branches-loop-branch
invariant-use_branches-loop-branch l = (q : List ℕ) → (list_any (bytes_eq q) (loops_in (pack_branches (map view_branch (drop l.branch-index l.branches)))) || list_any (bytes_eq q) (used_names l.used))
    ≡ (list_any (bytes_eq q) (loops_in (pack_branches (map view_branch l.branches))) || list_any (bytes_eq q) (used_names l.initial.used))

abbrev pub invariant-use_loops-loop-statement : goal.invariant-use_loops-loop-statement
invariant-use_loops-loop-statement l = (q : List ℕ) → (list_any (bytes_eq q) (all_loops (view_statements (drop l.statement-index l.statements))) || list_any (bytes_eq q) (used_names l.used))
    ≡ (list_any (bytes_eq q) (all_loops (view_statements l.statements)) || list_any (bytes_eq q) (used_names l.initial.used))
