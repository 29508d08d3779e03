use Rattle.std.proofs.Common.{◌≡◌, ◌++◌, length, map, Some}
use Rattle.std.specs.Vec.Iter.{into_iter_items, into_iter_len}
use Rattle.ioa_trees.specs.Meant.{AllSome}
use Rattle.ioa_check.proofs.resolving.all.Given as goal

abbrev pub invariant-loop-item : goal.invariant-loop-item
invariant-loop-item g l = record {
  taken : map Some l.found.items ++ into_iter_items l.item-iterator ≡ into_iter_items l.initial.item-iterator;
  whole : AllSome (into_iter_items l.item-iterator);
  left : into_iter_len l.item-iterator ≡ length (into_iter_items l.item-iterator);
}
