use Rattle.std.proofs.Common.{◌≡◌, ◌+◌, ◌++◌, drop, map}
use Rattle.ioa_trees.specs.Views.{view_parameter}
use Rattle.ioa_trees.specs.EntryRules.{slots, with_parameters}
use Rattle.ioa_trees.specs.Sizes.{listed_size, parameter_size}
use Rattle.ioa_typing.specs.NameViews.{names_tree}
use Rattle.ioa_entries.specs.EntryParts.{rest_size}
use Rattle.ioa_entries.specs.EntryViews.{slot_tree}
use Rattle.ioa_entries.proofs.slots.declare_each.Given as goal

abbrev pub invariant-loop-place : goal.invariant-loop-place
invariant-loop-place l = record {
  at : l.progress.at + rest_size l.place (map view_parameter (drop l.place l.parameters)) ≡ l.initial.progress.at + listed_size parameter_size (map view_parameter l.parameters);
  names : with_parameters (names_tree l.names) l.place (map view_parameter (drop l.place l.parameters)) ≡ with_parameters (names_tree l.initial.names) 0 (map view_parameter l.parameters);
  taken : map slot_tree l.slots.items ++ slots (names_tree l.names) l.place (map view_parameter (drop l.place l.parameters)) ≡ slots (names_tree l.initial.names) 0 (map view_parameter l.parameters);
}
