use Rattle.std.proofs.Common.{◌≡◌, drop, map}
use Rattle.ioa_trees.specs.Views.{view_variable}
use Rattle.ioa_trees.specs.AutomatonRules.{with_variables}
use Rattle.ioa_trees.specs.Scopes.{Scope}
use Rattle.ioa_typing.specs.NameViews.{names_tree}
use Rattle.ioa_check.specs.AutomatonParts.{kind_in}
use Rattle.ioa_check.specs.AutomatonViews.{cell_kind}
use Rattle.ioa_check.proofs.variables.declare_variables.Given as goal

abbrev pub invariant-loop-place : goal.invariant-loop-place
invariant-loop-place l = (s : Scope) → map cell_kind l.cells ≡ map (kind_in s) (map view_variable l.variables) →
    with_variables s (names_tree l.names) l.place (map view_variable (drop l.place l.variables)) ≡ with_variables s (names_tree l.initial.names) 0 (map view_variable l.variables)
