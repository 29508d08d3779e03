use Rattle.std.proofs.Common.{◌≡◌, ℕ, ◌||◌, bytes_eq, List, drop, map}
use Rattle.std.specs.List.{list_any}
use Rattle.ioa_trees.specs.Views.{view_variable}
use Rattle.ioa_check.specs.AutomatonParts.{variable_names}
use Rattle.ioa_check.specs.AutomatonViews.{used_names}
use Rattle.ioa_check.proofs.locals.use_variables.Given as goal

abbrev pub invariant-loop-variable : goal.invariant-loop-variable
invariant-loop-variable l = (q : List ℕ) → (list_any (bytes_eq q) (variable_names (map view_variable (drop l.variable-index l.variables))) || list_any (bytes_eq q) (used_names l.used))
    ≡ (list_any (bytes_eq q) (variable_names (map view_variable l.variables)) || list_any (bytes_eq q) (used_names l.initial.used))
