use Rattle.std.proofs.Common.{◌≡◌, ◌+◌, [], drop, map, take}
use Rattle.std.specs.Prelude.{reverse}
use Rattle.ioa_trees.specs.Views.{view_entry, view_transition}
use Rattle.ioa_trees.specs.EntryRules.{entries_faults}
use Rattle.ioa_trees.specs.Faults.{keep}
use Rattle.ioa_trees.specs.Sizes.{entry_size, row_size}
use Rattle.ioa_typing.specs.NameViews.{names_tree}
use Rattle.ioa_typing.specs.TermViews.{least_tree}
use Rattle.ioa_entries.specs.TaskNames.{task_names}
use Rattle.ioa_entries.proofs.entries.check_entries.Given as goal

abbrev pub invariant-loop-place : goal.invariant-loop-place
invariant-loop-place l = record {
  at : l.progress.at + row_size entry_size (map view_entry (drop l.place l.entries)) ≡ l.initial.progress.at + row_size entry_size (map view_entry l.entries);
  names : names_tree l.names ≡ names_tree l.initial.names;
  faults : keep (least_tree l.progress.least) (entries_faults (names_tree l.initial.names) (map view_entry (reverse (take l.place l.entries))) (map view_transition l.transitions) (task_names l.tasks) l.progress.at (map view_entry (drop l.place l.entries)))
      ≡ keep (least_tree l.initial.progress.least) (entries_faults (names_tree l.initial.names) [] (map view_transition l.transitions) (task_names l.tasks) l.initial.progress.at (map view_entry l.entries));
}
