use Rattle.std.proofs.Common.{◌≡◌, ◌++◌, length, map, Some}
use Rattle.std.specs.Vec.Iter.{into_iter_items, into_iter_len}
use Rattle.ioa_check.specs.AutomatonViews.{cell_kind, cell_start}
use Rattle.ioa_typing.specs.KindViews.{option_tree}
use Rattle.ioa_trees.specs.Meant.{AllSome}
use Rattle.ioa_typing.specs.TermViews.{core_tree}
use Rattle.ioa_check.proofs.resolving.variables.Given as goal

abbrev pub invariant-loop-cell : goal.invariant-loop-cell
invariant-loop-cell l = record {
  kinds : map (λ v. option_tree (Some v.kind)) l.found.items ++ map cell_kind (into_iter_items l.cell-iterator) ≡ map cell_kind (into_iter_items l.initial.cell-iterator);
  starts : map (λ v. core_tree (Some v.start)) l.found.items ++ map cell_start (into_iter_items l.cell-iterator) ≡ map cell_start (into_iter_items l.initial.cell-iterator);
  some_kinds : AllSome (map cell_kind (into_iter_items l.cell-iterator));
  some_starts : AllSome (map cell_start (into_iter_items l.cell-iterator));
  left : into_iter_len l.cell-iterator ≡ length (into_iter_items l.cell-iterator);
}
