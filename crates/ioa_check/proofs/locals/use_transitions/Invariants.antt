use Rattle.std.proofs.Common.{◌≡◌, ℕ, ◌||◌, bytes_eq, List, drop, map}
use Rattle.std.specs.List.{list_any}
use Rattle.ioa_trees.specs.Views.{view_transition}
use Rattle.ioa_trees.specs.AutomatonRules.{all_loops, all_of}
use Rattle.ioa_check.specs.AutomatonViews.{used_names}
use Rattle.ioa_check.proofs.locals.use_transitions.Given as goal

abbrev pub invariant-loop-transition : goal.invariant-loop-transition
invariant-loop-transition l = (q : List ℕ) → (list_any (bytes_eq q) (all_of (λ t. all_loops t.eff) (map view_transition (drop l.transition-index l.transitions))) || list_any (bytes_eq q) (used_names l.used))
    ≡ (list_any (bytes_eq q) (all_of (λ t. all_loops t.eff) (map view_transition l.transitions)) || list_any (bytes_eq q) (used_names l.initial.used))
