use Rattle.std.proofs.Common.{◌≡◌, ℕ, ◌||◌, bytes_eq, List, drop, map}
use Rattle.std.specs.List.{list_any}
use Rattle.ioa_trees.specs.Views.{view_declared}
use Rattle.ioa_check.specs.AutomatonParts.{formal_names}
use Rattle.ioa_check.specs.AutomatonViews.{used_names}
use Rattle.ioa_check.proofs.locals.use_formals.Given as goal

abbrev pub invariant-loop-declared : goal.invariant-loop-declared
invariant-loop-declared l = (q : List ℕ) → (list_any (bytes_eq q) (formal_names (map view_declared (drop l.declared-index l.formals))) || list_any (bytes_eq q) (used_names l.used))
    ≡ (list_any (bytes_eq q) (formal_names (map view_declared l.formals)) || list_any (bytes_eq q) (used_names l.initial.used))
