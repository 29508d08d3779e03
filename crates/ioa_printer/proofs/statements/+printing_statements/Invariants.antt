use Rattle.std.proofs.Common.{◌≡◌, ◌++◌, drop, map}
use Rattle.ioa_trees.specs.Nodes.{Nodes}
use Rattle.ioa_trees.specs.Trees.{pack_branches}
use Rattle.ioa_trees.specs.Views.{view_statements, view_branch}
use Rattle.ioa_printer.specs.Printed.{rest_toks, branches_toks}
use Rattle.ioa_printer.proofs.statements.+printing_statements.Given as goal

abbrev pub invariant-put_statements-loop-statement : goal.invariant-put_statements-loop-statement
invariant-put_statements-loop-statement l =
    l.page ++ rest_toks l.is_first (view_statements (drop l.statement-index l.statements)) ≡ l.initial.page ++ rest_toks l.initial.is_first (view_statements l.statements)

abbrev pub invariant-put_branches-loop-branch : goal.invariant-put_branches-loop-branch
invariant-put_branches-loop-branch l =
    (ns : Nodes) → l.page ++ branches_toks l.is_first (pack_branches (map view_branch (drop l.branch-index l.branches))) ns ≡ l.initial.page ++ branches_toks l.initial.is_first (pack_branches (map view_branch l.branches)) ns
