use Rattle.std.proofs.Common.{◌≡◌, ℕ, ◌+◌, ◌++◌, ◌||◌, bytes_eq, List, drop, map}
use Rattle.std.specs.List.{list_any}
use Rattle.ioa_trees.specs.Views.{view_variable}
use Rattle.ioa_trees.specs.AutomatonRules.{variables_faults}
use Rattle.ioa_trees.specs.Faults.{keep}
use Rattle.ioa_trees.specs.Sizes.{listed_size, variable_size}
use Rattle.ioa_typing.specs.NameViews.{names_tree}
use Rattle.ioa_typing.specs.TermViews.{least_tree}
use Rattle.ioa_check.specs.AutomatonParts.{kind_in, start_in, variable_names}
use Rattle.ioa_entries.specs.Between.{between}
use Rattle.ioa_check.specs.ListParts.{left_size}
use Rattle.ioa_check.specs.AutomatonViews.{cell_kind, cell_start, used_names}
use Rattle.ioa_check.proofs.variables.check_variables.Given as goal

abbrev pub invariant-loop-variable : goal.invariant-loop-variable
invariant-loop-variable l = record {
  at : l.progress.at + left_size l.is_first variable_size (map view_variable (drop l.variable-index l.variables)) ≡ l.initial.progress.at + listed_size variable_size (map view_variable l.variables);
  names : (q : List ℕ) → (list_any (bytes_eq q) (variable_names (map view_variable (drop l.variable-index l.variables))) || list_any (bytes_eq q) (used_names l.used))
      ≡ (list_any (bytes_eq q) (variable_names (map view_variable l.variables)) || list_any (bytes_eq q) (used_names l.initial.used));
  faults : keep (least_tree l.progress.least) (variables_faults (names_tree l.names) (used_names l.used) l.total (l.progress.at + between l.is_first) (map view_variable (drop l.variable-index l.variables)))
      ≡ keep (least_tree l.initial.progress.least) (variables_faults (names_tree l.names) (used_names l.initial.used) 0 l.initial.progress.at (map view_variable l.variables));
  kinds : map cell_kind l.cells.items ++ map (kind_in (names_tree l.names)) (map view_variable (drop l.variable-index l.variables)) ≡ map (kind_in (names_tree l.names)) (map view_variable l.variables);
  starts : map cell_start l.cells.items ++ map (start_in (names_tree l.names)) (map view_variable (drop l.variable-index l.variables)) ≡ map (start_in (names_tree l.names)) (map view_variable l.variables);
}
