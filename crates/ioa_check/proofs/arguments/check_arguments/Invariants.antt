use Rattle.std.proofs.Common.{◌≡◌, ◌+◌, ◌++◌, drop, map}
use Rattle.ioa_trees.specs.Views.{view}
use Rattle.ioa_trees.specs.Faults.{keep}
use Rattle.ioa_trees.specs.Sizes.{listed_size, size}
use Rattle.ioa_trees.specs.SourceRules.{placed_arguments}
use Rattle.ioa_typing.specs.KindViews.{option_tree}
use Rattle.ioa_typing.specs.NameViews.{names_tree}
use Rattle.ioa_typing.specs.TermViews.{core_tree, least_tree}
use Rattle.ioa_check.specs.ComponentParts.{fitted_faults}
use Rattle.ioa_entries.specs.Between.{between}
use Rattle.ioa_check.specs.ListParts.{left_size}
use Rattle.ioa_check.proofs.arguments.check_arguments.Given as goal

abbrev pub invariant-loop-number : goal.invariant-loop-number
invariant-loop-number l = record {
  at : l.progress.at + left_size l.is_first size (map view (drop l.number l.arguments)) ≡ l.initial.progress.at + listed_size size (map view l.arguments);
  faults : keep (least_tree l.progress.least) (fitted_faults (names_tree l.names) (drop l.number (map option_tree l.formals)) (l.progress.at + between l.is_first) (map view (drop l.number l.arguments)))
      ≡ keep (least_tree l.initial.progress.least) (fitted_faults (names_tree l.names) (map option_tree l.formals) l.initial.progress.at (map view l.arguments));
  values : map core_tree l.values.items ++ placed_arguments (names_tree l.names) (drop l.number (map option_tree l.formals)) (map view (drop l.number l.arguments))
      ≡ placed_arguments (names_tree l.names) (map option_tree l.formals) (map view l.arguments);
}
