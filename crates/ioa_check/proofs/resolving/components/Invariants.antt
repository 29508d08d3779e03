use Rattle.std.proofs.Common.{◌≡◌, ◌++◌, length, map}
use Rattle.std.specs.Vec.Iter.{into_iter_items, into_iter_len}
use Rattle.std.specs.List.{All}
use Rattle.ioa_check.specs.ComponentViews.{component_tree}
use Rattle.ioa_trees.specs.Meant.{IsWholeComponent}
use Rattle.ioa_check.specs.Resolutions.{component_meaning}
use Rattle.ioa_check.proofs.resolving.components.Given as goal

abbrev pub invariant-loop-one : goal.invariant-loop-one
invariant-loop-one l = record {
  taken : map component_meaning l.found.items ++ map component_tree (into_iter_items l.one-iterator) ≡ map component_tree (into_iter_items l.initial.one-iterator);
  whole : All IsWholeComponent (map component_tree (into_iter_items l.one-iterator));
  left : into_iter_len l.one-iterator ≡ length (into_iter_items l.one-iterator);
}
