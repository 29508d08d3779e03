use Rattle.std.proofs.Common.{◌≡◌, ◌+◌, drop, map}
use Rattle.ioa_trees.specs.Trees.{pack_terms, pack_factors, pack_addends}
use Rattle.ioa_trees.specs.Views.{view, view_factor, view_addend}
use Rattle.ioa_trees.specs.Faults.{keep}
use Rattle.ioa_trees.specs.Sizes.{joined_size, indexes_size, factors_size, addends_size}
use Rattle.ioa_trees.specs.TermRules as rule
use Rattle.ioa_typing.specs.NameViews.{names_tree}
use Rattle.ioa_typing.specs.TermViews.{core_tree, judged_tree, least_tree}
use Rattle.ioa_typing.proofs.term.+checking_terms.Given as goal

abbrev pub invariant-check_truths-loop-other : goal.invariant-check_truths-loop-other
invariant-check_truths-loop-other l = record {
  at : l.progress.at + joined_size (pack_terms (map view (drop l.other-index l.others))) ≡ l.initial.progress.at + joined_size (pack_terms (map view l.others));
  faults : keep (least_tree l.progress.least) (rule.truths_faults (names_tree l.names) l.progress.at (pack_terms (map view (drop l.other-index l.others)))) ≡ keep (least_tree l.initial.progress.least) (rule.truths_faults (names_tree l.names) l.initial.progress.at (pack_terms (map view l.others)));
  meant : rule.combined (names_tree l.names) l.operator (core_tree l.core) (pack_terms (map view (drop l.other-index l.others))) ≡ rule.combined (names_tree l.names) l.operator (core_tree l.initial.core) (pack_terms (map view l.others));
}

abbrev pub invariant-check_indexes-loop-index : goal.invariant-check_indexes-loop-index
invariant-check_indexes-loop-index l = record {
  at : l.progress.at + indexes_size (pack_terms (map view (drop l.index-index l.indexes))) ≡ l.initial.progress.at + indexes_size (pack_terms (map view l.indexes));
  faults : keep (least_tree l.progress.least) (rule.indexes_faults (names_tree l.names) l.first (judged_tree l.found) l.progress.at (pack_terms (map view (drop l.index-index l.indexes)))) ≡ keep (least_tree l.initial.progress.least) (rule.indexes_faults (names_tree l.names) l.first (judged_tree l.initial.found) l.initial.progress.at (pack_terms (map view l.indexes)));
  meant : rule.indexed (names_tree l.names) (judged_tree l.found) (pack_terms (map view (drop l.index-index l.indexes))) ≡ rule.indexed (names_tree l.names) (judged_tree l.initial.found) (pack_terms (map view l.indexes));
}

abbrev pub invariant-check_factors-loop-factor : goal.invariant-check_factors-loop-factor
invariant-check_factors-loop-factor l = record {
  at : l.progress.at + factors_size (pack_factors (map view_factor (drop l.factor-index l.factors))) ≡ l.initial.progress.at + factors_size (pack_factors (map view_factor l.factors));
  faults : keep (least_tree l.progress.least) (rule.factors_faults (names_tree l.names) l.progress.at (pack_factors (map view_factor (drop l.factor-index l.factors)))) ≡ keep (least_tree l.initial.progress.least) (rule.factors_faults (names_tree l.names) l.initial.progress.at (pack_factors (map view_factor l.factors)));
  meant : rule.multiplied (names_tree l.names) (core_tree l.core) (pack_factors (map view_factor (drop l.factor-index l.factors))) ≡ rule.multiplied (names_tree l.names) (core_tree l.initial.core) (pack_factors (map view_factor l.factors));
}

abbrev pub invariant-check_addends-loop-addend : goal.invariant-check_addends-loop-addend
invariant-check_addends-loop-addend l = record {
  at : l.progress.at + addends_size (pack_addends (map view_addend (drop l.addend-index l.addends))) ≡ l.initial.progress.at + addends_size (pack_addends (map view_addend l.addends));
  faults : keep (least_tree l.progress.least) (rule.addends_faults (names_tree l.names) l.progress.at (pack_addends (map view_addend (drop l.addend-index l.addends)))) ≡ keep (least_tree l.initial.progress.least) (rule.addends_faults (names_tree l.names) l.initial.progress.at (pack_addends (map view_addend l.addends)));
  meant : rule.added (names_tree l.names) (core_tree l.core) (pack_addends (map view_addend (drop l.addend-index l.addends))) ≡ rule.added (names_tree l.names) (core_tree l.initial.core) (pack_addends (map view_addend l.addends));
}
