use Rattle.std.proofs.Common.{◌≡◌, ◌+◌, ◌++◌, [], drop, map, take}
use Rattle.std.specs.Prelude.{reverse}
use Rattle.ioa_trees.specs.Views.{view_entry, view_transition}
use Rattle.ioa_trees.specs.EntryRules.{meant_by, transitions_faults}
use Rattle.ioa_trees.specs.Faults.{keep}
use Rattle.ioa_trees.specs.Sizes.{row_size, transition_size}
use Rattle.ioa_typing.specs.NameViews.{names_tree}
use Rattle.ioa_typing.specs.TermViews.{least_tree}
use Rattle.ioa_entries.specs.EntryViews.{meant_tree}
use Rattle.ioa_entries.proofs.transitions.check_transitions.Given as goal

abbrev pub invariant-loop-place : goal.invariant-loop-place
invariant-loop-place l = record {
  at : l.progress.at + row_size transition_size (map view_transition (drop l.place l.transitions)) ≡ l.initial.progress.at + row_size transition_size (map view_transition l.transitions);
  names : names_tree l.names ≡ names_tree l.initial.names;
  faults : keep (least_tree l.progress.least) (transitions_faults (names_tree l.initial.names) (map view_entry l.entries) (map view_transition (reverse (take l.place l.transitions))) l.progress.at (map view_transition (drop l.place l.transitions)))
      ≡ keep (least_tree l.initial.progress.least) (transitions_faults (names_tree l.initial.names) (map view_entry l.entries) [] l.initial.progress.at (map view_transition l.transitions));
  meant : map meant_tree l.meant.items ++ map (meant_by (names_tree l.initial.names)) (map view_transition (drop l.place l.transitions)) ≡ map (meant_by (names_tree l.initial.names)) (map view_transition l.transitions);
}
