use Rattle.std.proofs.Common.{◌≡◌, ℕ, ◌+◌, ◌*◌, ◌||◌, bytes_eq, List, drop, map, string_bytes}
use Rattle.std.specs.List.{list_any}
use Rattle.ioa_trees.specs.Views.{view_entry}
use Rattle.ioa_trees.specs.AutomatonRules.{task_faults}
use Rattle.ioa_trees.specs.Faults.{keep}
use Rattle.ioa_typing.specs.TermViews.{least_tree}
use Rattle.ioa_check.specs.AutomatonViews.{used_names}
use Rattle.ioa_check.proofs.tasks.check_names.Given as goal

abbrev pub invariant-loop-name : goal.invariant-loop-name
invariant-loop-name l = record {
  at : l.progress.at ≡ l.initial.progress.at + 2 * l.name-index;
  names : (q : List ℕ) → (list_any (bytes_eq q) (map string_bytes (drop l.name-index l.task)) || list_any (bytes_eq q) (used_names l.used))
      ≡ (list_any (bytes_eq q) (map string_bytes l.task) || list_any (bytes_eq q) (used_names l.initial.used));
  faults : keep (least_tree l.progress.least) (task_faults (map view_entry l.entries) (used_names l.used) (l.progress.at + 1) (map string_bytes (drop l.name-index l.task)))
      ≡ keep (least_tree l.initial.progress.least) (task_faults (map view_entry l.entries) (used_names l.initial.used) (l.initial.progress.at + 1) (map string_bytes l.task));
}
