use Rattle.std.proofs.Common.{◌≡◌, ℕ, ◌||◌, bytes_eq, List, drop, map}
use Rattle.std.specs.List.{list_any}
use Rattle.ioa_trees.specs.Views.{view_parameter}
use Rattle.ioa_trees.specs.AutomatonRules.{typed_names}
use Rattle.ioa_check.specs.AutomatonViews.{used_names}
use Rattle.ioa_check.proofs.locals.use_typed.Given as goal

abbrev pub invariant-loop-parameter : goal.invariant-loop-parameter
invariant-loop-parameter l = (q : List ℕ) → (list_any (bytes_eq q) (typed_names (map view_parameter (drop l.parameter-index l.parameters))) || list_any (bytes_eq q) (used_names l.used))
    ≡ (list_any (bytes_eq q) (typed_names (map view_parameter l.parameters)) || list_any (bytes_eq q) (used_names l.initial.used))
