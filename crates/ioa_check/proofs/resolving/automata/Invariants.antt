use Rattle.std.proofs.Common.{◌≡◌, ◌++◌, length, map}
use Rattle.std.specs.Vec.Iter.{into_iter_items, into_iter_len}
use Rattle.std.specs.List.{All}
use Rattle.ioa_check.specs.Meant.{automaton_tree}
use Rattle.ioa_trees.specs.Meant.{IsWholeAutomaton}
use Rattle.ioa_check.specs.Resolutions.{automaton_meaning}
use Rattle.ioa_check.proofs.resolving.automata.Given as goal

abbrev pub invariant-loop-one : goal.invariant-loop-one
invariant-loop-one l = record {
  taken : map automaton_meaning l.found.items ++ map automaton_tree (into_iter_items l.one-iterator) ≡ map automaton_tree (into_iter_items l.initial.one-iterator);
  whole : All IsWholeAutomaton (map automaton_tree (into_iter_items l.one-iterator));
  left : into_iter_len l.one-iterator ≡ length (into_iter_items l.one-iterator);
}
