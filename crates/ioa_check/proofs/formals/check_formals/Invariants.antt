use Rattle.std.proofs.Common.{◌≡◌, ◌++◌, ◌+◌, drop, length, map}
use Rattle.ioa_trees.specs.Views.{view_declared}
use Rattle.ioa_trees.specs.AutomatonRules.{formal_kinds, formals_faults, with_formals}
use Rattle.ioa_trees.specs.Faults.{keep}
use Rattle.ioa_trees.specs.Sizes.{declared_size, listed_size}
use Rattle.ioa_typing.specs.KindViews.{option_tree}
use Rattle.ioa_typing.specs.NameViews.{names_tree}
use Rattle.ioa_typing.specs.TermViews.{least_tree}
use Rattle.ioa_entries.specs.Between.{between}
use Rattle.ioa_check.specs.ListParts.{left_size}
use Rattle.ioa_check.proofs.formals.check_formals.Given as goal

abbrev pub invariant-loop-declared : goal.invariant-loop-declared
invariant-loop-declared l = record {
  at : l.progress.at + left_size l.is_first declared_size (map view_declared (drop l.declared-index l.formals)) ≡ l.initial.progress.at + listed_size declared_size (map view_declared l.formals);
  names : with_formals (names_tree l.names) (length l.kinds.items) (map view_declared (drop l.declared-index l.formals)) ≡ with_formals (names_tree l.initial.names) 0 (map view_declared l.formals);
  faults : keep (least_tree l.progress.least) (formals_faults (names_tree l.names) (length l.kinds.items) (l.progress.at + between l.is_first) (map view_declared (drop l.declared-index l.formals)))
      ≡ keep (least_tree l.initial.progress.least) (formals_faults (names_tree l.initial.names) 0 l.initial.progress.at (map view_declared l.formals));
  kinds : map option_tree l.kinds.items ++ formal_kinds (names_tree l.names) (length l.kinds.items) (map view_declared (drop l.declared-index l.formals)) ≡ formal_kinds (names_tree l.initial.names) 0 (map view_declared l.formals);
}
