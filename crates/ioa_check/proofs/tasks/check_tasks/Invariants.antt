use Rattle.std.proofs.Common.{◌≡◌, ◌+◌, [], drop, map}
use Rattle.ioa_trees.specs.Views.{view_entry}
use Rattle.ioa_trees.specs.AutomatonRules.{tasks_faults}
use Rattle.ioa_trees.specs.Faults.{keep}
use Rattle.ioa_trees.specs.Sizes.{row_size, task_size}
use Rattle.ioa_typing.specs.TermViews.{least_tree}
use Rattle.ioa_check.specs.AutomatonViews.{used_names}
use Rattle.ioa_entries.specs.TaskNames.{task_names}
use Rattle.ioa_check.proofs.tasks.check_tasks.Given as goal

abbrev pub invariant-loop-task : goal.invariant-loop-task
invariant-loop-task l = record {
  at : l.progress.at + row_size task_size (task_names (drop l.task-index l.tasks)) ≡ l.initial.progress.at + row_size task_size (task_names l.tasks);
  faults : keep (least_tree l.progress.least) (tasks_faults (map view_entry l.entries) (used_names l.used) l.progress.at (task_names (drop l.task-index l.tasks)))
      ≡ keep (least_tree l.initial.progress.least) (tasks_faults (map view_entry l.entries) [] l.initial.progress.at (task_names l.tasks));
}
