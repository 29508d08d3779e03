use Rattle.std.proofs.Common.{◌≡◌, ◌+◌, ◌++◌, [], drop, map}
use Rattle.ioa_trees.specs.Views.{view_component}
use Rattle.ioa_trees.specs.Faults.{keep}
use Rattle.ioa_trees.specs.Sizes.{component_size, listed_size}
use Rattle.ioa_trees.specs.SourceRules.{components_faults, components_of}
use Rattle.ioa_typing.specs.NameViews.{names_tree}
use Rattle.ioa_typing.specs.TermViews.{least_tree}
use Rattle.ioa_check.specs.Meant.{automaton_tree}
use Rattle.ioa_check.specs.AutomatonViews.{used_names}
use Rattle.ioa_entries.specs.Between.{between}
use Rattle.ioa_check.specs.ListParts.{left_size}
use Rattle.ioa_check.specs.ComponentViews.{component_tree}
use Rattle.ioa_check.proofs.components.check_components.Given as goal

abbrev pub invariant-loop-component : goal.invariant-loop-component
invariant-loop-component l = record {
  at : l.progress.at + left_size l.is_first component_size (map view_component (drop l.component-index l.components)) ≡ l.initial.progress.at + listed_size component_size (map view_component l.components);
  faults : keep (least_tree l.progress.least) (components_faults (names_tree l.names) (map automaton_tree l.table) (used_names l.used) (l.progress.at + between l.is_first) (map view_component (drop l.component-index l.components)))
      ≡ keep (least_tree l.initial.progress.least) (components_faults (names_tree l.names) (map automaton_tree l.table) [] l.initial.progress.at (map view_component l.components));
  meant : map component_tree l.meant.items ++ components_of (names_tree l.names) (map automaton_tree l.table) (map view_component (drop l.component-index l.components))
      ≡ components_of (names_tree l.names) (map automaton_tree l.table) (map view_component l.components);
}
