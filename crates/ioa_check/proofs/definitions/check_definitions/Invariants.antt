use Rattle.std.proofs.Common.{◌≡◌, ◌++◌, ◌+◌, ◌≤◌, drop, length, map, string_bytes}
use Rattle.ioa_trees.specs.Views.{view_type_definition}
use Rattle.ioa_trees.specs.Faults.{keep}
use Rattle.ioa_trees.specs.SourceRules.{all_members, definitions_faults, definitions_size, with_definitions}
use Rattle.ioa_typing.specs.NameViews.{names_tree}
use Rattle.ioa_typing.specs.TermViews.{least_tree}
use Rattle.ioa_check.proofs.definitions.check_definitions.Given as goal

abbrev pub invariant-loop-definition : goal.invariant-loop-definition
invariant-loop-definition l = record {
  at : l.progress.at + definitions_size (map view_type_definition (drop l.definition-index l.definitions)) ≡ l.initial.progress.at + definitions_size (map view_type_definition l.definitions);
  low : l.first ≤ l.progress.at;
  number : l.first ≡ length (map string_bytes l.members.items);
  names : with_definitions (names_tree l.names) l.first (map view_type_definition (drop l.definition-index l.definitions)) ≡ with_definitions (names_tree l.initial.names) 0 (map view_type_definition l.definitions);
  faults : keep (least_tree l.progress.least) (definitions_faults (names_tree l.names) l.first l.progress.at (map view_type_definition (drop l.definition-index l.definitions)))
      ≡ keep (least_tree l.initial.progress.least) (definitions_faults (names_tree l.initial.names) 0 l.initial.progress.at (map view_type_definition l.definitions));
  members : map string_bytes l.members.items ++ all_members (map view_type_definition (drop l.definition-index l.definitions)) ≡ all_members (map view_type_definition l.definitions);
}
