use Rattle.std.proofs.Common.{◌≡◌, ◌++◌, length, map}
use Rattle.std.specs.Vec.Iter.{into_iter_items, into_iter_len}
use Rattle.std.specs.List.{All}
use Rattle.ioa_entries.specs.EntryViews.{meant_tree}
use Rattle.ioa_trees.specs.Meant.{IsWholeEntry}
use Rattle.ioa_check.specs.Resolutions.{transition_meaning}
use Rattle.ioa_check.proofs.resolving.transitions.Given as goal

abbrev pub invariant-loop-entry : goal.invariant-loop-entry
invariant-loop-entry l = record {
  taken : map transition_meaning l.found.items ++ map meant_tree (into_iter_items l.entry-iterator) ≡ map meant_tree (into_iter_items l.initial.entry-iterator);
  whole : All IsWholeEntry (map meant_tree (into_iter_items l.entry-iterator));
  left : into_iter_len l.entry-iterator ≡ length (into_iter_items l.entry-iterator);
}
