use Rattle.std.proofs.Common.{◌≡◌, ◌++◌, drop, map}
use Rattle.ioa_trees.specs.Nodes.{yield_nodes}
use Rattle.ioa_trees.specs.Trees.{pack_terms, pack_factors, pack_addends}
use Rattle.ioa_trees.specs.Spelling.{index_nodes, and_nodes, or_nodes, factor_nodes, addend_nodes}
use Rattle.ioa_trees.specs.Views.{view, view_factor, view_addend}
use Rattle.ioa_printer.proofs.term.+printing_terms.Given as goal

abbrev pub invariant-put_addends-loop-addend : goal.invariant-put_addends-loop-addend
invariant-put_addends-loop-addend l =
    l.page ++ yield_nodes (addend_nodes (pack_addends (map view_addend (drop l.addend-index l.addends)))) ≡ l.initial.page ++ yield_nodes (addend_nodes (pack_addends (map view_addend l.addends)))

abbrev pub invariant-put_ands-loop-other : goal.invariant-put_ands-loop-other
invariant-put_ands-loop-other l =
    l.page ++ yield_nodes (and_nodes (pack_terms (map view (drop l.other-index l.others)))) ≡ l.initial.page ++ yield_nodes (and_nodes (pack_terms (map view l.others)))

abbrev pub invariant-put_factors-loop-factor : goal.invariant-put_factors-loop-factor
invariant-put_factors-loop-factor l =
    l.page ++ yield_nodes (factor_nodes (pack_factors (map view_factor (drop l.factor-index l.factors)))) ≡ l.initial.page ++ yield_nodes (factor_nodes (pack_factors (map view_factor l.factors)))

abbrev pub invariant-put_indexes-loop-index : goal.invariant-put_indexes-loop-index
invariant-put_indexes-loop-index l =
    l.page ++ yield_nodes (index_nodes (pack_terms (map view (drop l.index-index l.indexes)))) ≡ l.initial.page ++ yield_nodes (index_nodes (pack_terms (map view l.indexes)))

abbrev pub invariant-put_ors-loop-other : goal.invariant-put_ors-loop-other
invariant-put_ors-loop-other l =
    l.page ++ yield_nodes (or_nodes (pack_terms (map view (drop l.other-index l.others)))) ≡ l.initial.page ++ yield_nodes (or_nodes (pack_terms (map view l.others)))
