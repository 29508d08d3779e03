use Rattle.std.proofs.Common.{◌≡◌, ◌++◌, drop, map}
use Rattle.ioa_trees.specs.Views.{view_transition}
use Rattle.ioa_trees.specs.AutomatonRules.{place_of}
use Rattle.ioa_check.specs.AutomatonViews.{place_lists}
use Rattle.ioa_entries.specs.TaskNames.{task_names}
use Rattle.ioa_check.proofs.tasks.task_places.Given as goal

abbrev pub invariant-loop-task : goal.invariant-loop-task
invariant-loop-task l = place_lists l.places.items ++ map (λ t. map (λ q. place_of q 0 (map view_transition l.transitions)) t) (task_names (drop l.task-index l.tasks))
    ≡ map (λ t. map (λ q. place_of q 0 (map view_transition l.transitions)) t) (task_names l.tasks)
