use Rattle.std.proofs.Common.{rules, arith, ◌≡◌, ◌+◌, ◌++◌, ◌∷◌, [], ℕ, List, Option, ap, sym, ◌∙◌, drop, map, refl}
use Rattle.ioa_trees.specs.declared.tree.Term.{the_lemmas}
use Rattle.ioa_trees.specs.declared.tree.Addend as addend
use Rattle.ioa_trees.specs.Trees.{no_factor, more_factors, Append, Index, Product, Sum, Compare, And, Or, Times, pack_terms, pack_factors, pack_addends}
use Rattle.ioa_trees.specs.Views.{view, view_factor, view_addend}
use Rattle.ioa_trees.specs.Faults.{Fault, keep}
use Rattle.ioa_trees.specs.Sizes.{size}
use Rattle.ioa_trees.specs.Kinds.{is_seq, is_truth, is_whole}
use Rattle.ioa_trees.specs.TermRules.{Judged, faults, judge, wants, append_faults, compare_faults, index_faults, indexes_faults, factors_faults, addends_faults, truths_faults, indexed, multiplied, added, combined, joined, element_of, operator_of, truth_of, whole_of}
use Rattle.ioa_typing.specs.NameViews.{names_tree}
use Rattle.ioa_typing.specs.TermViews.{core_tree, judged_tree, least_tree}
use Rattle.ioa_typing.proofs.Keeps.{keep_both, keep_three, keep_parts}
use Rattle.ioa_typing.proofs.Items.{drop_at}
use Rattle.ioa_typing.proofs.Factors.{factors_step, multiplied_more}
use Rattle.ioa_typing.proofs.term.+checking_terms.Goals as goal

pub check_term-returns-in_ok-found-in-Append-clause-faults : goal.check_term-returns-in_ok-found-in-Append-clause-faults
check_term-returns-in_ok-found-in-Append-clause-faults t c =
    let left = view c.in-Append.list.value in
    let right = view c.in-Append.item.value in
    let is : view c.args.term.now ≡ Append left right = search (rules, the_lemmas) in
    let s = names_tree c.args.names.now in
    let at = c.args.progress.now.at in
    let begun = c.check_term.new.progress in
    let j = judged_tree c.in_ok-list-in-Append.list in
    let place : begun.at + 1 ≡ at + size left + 3 = search (rules, the_lemmas, arith) in
    let meant : j ≡ judge s left = search (rules, the_lemmas) in
    let rest : ℕ → Option Judged → List Fault = λ n i. faults s n right ++ (wants is_seq (at + 2) i ++ append_faults n i (judge s right)) in
    rw is (keep_both (least_tree c.args.progress.now.least) (least_tree begun.least) (least_tree c.check_item.new.progress.least) (faults s (at + 2) left) (rest (begun.at + 1) j) (rest (at + size left + 3) (judge s left)) (search (rules, the_lemmas)) (ap (λ n. rest n j) place ∙ ap (rest (at + size left + 3)) meant) (search (rules, the_lemmas)))

pub check_term-returns-in_ok-found-in-Compare-clause-faults : goal.check_term-returns-in_ok-found-in-Compare-clause-faults
check_term-returns-in_ok-found-in-Compare-clause-faults t c =
    let left = view c.in-Compare.left.value in
    let right = view c.in-Compare.right.value in
    let is : view c.args.term.now ≡ Compare left c.in-Compare.relation right = search (rules, the_lemmas) in
    let s = names_tree c.args.names.now in
    let at = c.args.progress.now.at in
    let begun = c.check_term-in-Compare.new.progress in
    let j = judged_tree c.in_ok-left-in-Compare.left in
    let place : begun.at + 1 ≡ at + size left + 1 = search (rules, the_lemmas, arith) in
    let meant : j ≡ judge s left = search (rules, the_lemmas) in
    let rest : ℕ → Option Judged → List Fault = λ n i. faults s n right ++ compare_faults c.in-Compare.relation n i (judge s right) in
    rw is (keep_both (least_tree c.args.progress.now.least) (least_tree begun.least) (least_tree c.check_right.new.progress.least) (faults s at left) (rest (begun.at + 1) j) (rest (at + size left + 1) (judge s left)) (search (rules, the_lemmas)) (ap (λ n. rest n j) place ∙ ap (rest (at + size left + 1)) meant) (search (rules, the_lemmas)))

pub check_term-returns-in_ok-found-in-Index-clause-faults : goal.check_term-returns-in_ok-found-in-Index-clause-faults
check_term-returns-in_ok-found-in-Index-clause-faults t c =
    let of = view c.in-Index.of.value in
    let indexes = pack_terms (map view c.in-Index.indexes.items) in
    let is : view c.args.term.now ≡ Index of indexes = search (rules, the_lemmas) in
    let s = names_tree c.args.names.now in
    let at = c.args.progress.now.at in
    let begun = c.check_term-in-Index.new.progress in
    let j = judged_tree c.in_ok-of-in-Index.of in
    let meant : j ≡ judge s of = search (rules, the_lemmas) in
    let place : begun.at ≡ at + size of = search (rules, the_lemmas) in
    let same = ap (λ i. indexes_faults s at i begun.at indexes) meant ∙ ap (λ n. indexes_faults s at (judge s of) n indexes) place in
    rw is (keep_both (least_tree c.args.progress.now.least) (least_tree begun.least) (least_tree c.check_indexes.new.progress.least) (faults s at of) (indexes_faults s at j begun.at indexes) (indexes_faults s at (judge s of) (at + size of) indexes) (search (rules, the_lemmas)) same (search (rules, the_lemmas)))

pub check_term-returns-in_ok-found-in-Product-clause-faults : goal.check_term-returns-in_ok-found-in-Product-clause-faults
check_term-returns-in_ok-found-in-Product-clause-faults t c =
    let left = view c.in-Product.of.value in
    let right = pack_factors (map view_factor c.in-Product.factors.items) in
    let is : view c.args.term.now ≡ Product left right = search (rules, the_lemmas) in
    let s = names_tree c.args.names.now in
    let at = c.args.progress.now.at in
    let begun = c.check_term-in-Product.new.progress in
    let j = judged_tree c.in_ok-first-in-Product.first in
    let place : begun.at ≡ at + size left = search (rules, the_lemmas, arith) in
    let meant : j ≡ judge s left = search (rules, the_lemmas) in
    let rest : ℕ → Option Judged → List Fault = λ n i. wants is_whole at i ++ factors_faults s n right in
    rw is (keep_both (least_tree c.args.progress.now.least) (least_tree begun.least) (least_tree c.check_product.new.progress.least) (faults s at left) (rest (begun.at) j) (rest (at + size left) (judge s left)) (search (rules, the_lemmas)) (ap (λ n. rest n j) place ∙ ap (rest (at + size left)) meant) (search (rules, the_lemmas)))

pub check_term-returns-in_ok-found-in-Sum-clause-faults : goal.check_term-returns-in_ok-found-in-Sum-clause-faults
check_term-returns-in_ok-found-in-Sum-clause-faults t c =
    let left = view c.in-Sum.of.value in
    let right = pack_addends (map view_addend c.in-Sum.addends.items) in
    let is : view c.args.term.now ≡ Sum left right = search (rules, the_lemmas) in
    let s = names_tree c.args.names.now in
    let at = c.args.progress.now.at in
    let begun = c.check_term-in-Sum.new.progress in
    let j = judged_tree c.in_ok-first-in-Sum.first in
    let place : begun.at ≡ at + size left = search (rules, the_lemmas, arith) in
    let meant : j ≡ judge s left = search (rules, the_lemmas) in
    let rest : ℕ → Option Judged → List Fault = λ n i. wants is_whole at i ++ addends_faults s n right in
    rw is (keep_both (least_tree c.args.progress.now.least) (least_tree begun.least) (least_tree c.check_sum.new.progress.least) (faults s at left) (rest (begun.at) j) (rest (at + size left) (judge s left)) (search (rules, the_lemmas)) (ap (λ n. rest n j) place ∙ ap (rest (at + size left)) meant) (search (rules, the_lemmas)))

pub check_term-returns-in_ok-found-in-And-clause-faults : goal.check_term-returns-in_ok-found-in-And-clause-faults
check_term-returns-in_ok-found-in-And-clause-faults t c =
    let left = view c.in-And.of.value in
    let right = pack_terms (map view c.in-And.others.items) in
    let is : view c.args.term.now ≡ And left right = search (rules, the_lemmas) in
    let s = names_tree c.args.names.now in
    let at = c.args.progress.now.at in
    let begun = c.check_term-in-And.new.progress in
    let j = judged_tree c.in_ok-first-in-And.first in
    let place : begun.at ≡ at + size left = search (rules, the_lemmas, arith) in
    let meant : j ≡ judge s left = search (rules, the_lemmas) in
    let rest : ℕ → Option Judged → List Fault = λ n i. wants is_truth at i ++ truths_faults s n right in
    rw is (keep_both (least_tree c.args.progress.now.least) (least_tree begun.least) (least_tree c.check_joined.new.progress.least) (faults s at left) (rest (begun.at) j) (rest (at + size left) (judge s left)) (search (rules, the_lemmas)) (ap (λ n. rest n j) place ∙ ap (rest (at + size left)) meant) (search (rules, the_lemmas)))

pub check_term-returns-in_ok-found-in-Or-clause-faults : goal.check_term-returns-in_ok-found-in-Or-clause-faults
check_term-returns-in_ok-found-in-Or-clause-faults t c =
    let left = view c.in-Or.of.value in
    let right = pack_terms (map view c.in-Or.others.items) in
    let is : view c.args.term.now ≡ Or left right = search (rules, the_lemmas) in
    let s = names_tree c.args.names.now in
    let at = c.args.progress.now.at in
    let begun = c.check_term-in-Or.new.progress in
    let j = judged_tree c.in_ok-first-in-Or.first in
    let place : begun.at ≡ at + size left = search (rules, the_lemmas, arith) in
    let meant : j ≡ judge s left = search (rules, the_lemmas) in
    let rest : ℕ → Option Judged → List Fault = λ n i. wants is_truth at i ++ truths_faults s n right in
    rw is (keep_both (least_tree c.args.progress.now.least) (least_tree begun.least) (least_tree c.check_joined-in-Or.new.progress.least) (faults s at left) (rest (begun.at) j) (rest (at + size left) (judge s left)) (search (rules, the_lemmas)) (ap (λ n. rest n j) place ∙ ap (rest (at + size left)) meant) (search (rules, the_lemmas)))

pub check_call-returns-clause-faults : goal.check_call-returns-clause-faults
check_call-returns-clause-faults t c =
    let of = view c.args.of.now in
    let s = names_tree c.args.names.now in
    let at = c.args.progress.now.at in
    let begun = c.check_term.new.progress in
    keep_both (least_tree c.args.progress.now.least) (least_tree begun.least) (least_tree c.end_call.new.progress.least) (faults s (at + 2) of) (wants is_seq (at + 2) (judged_tree c.in_ok-of.of)) (wants is_seq (at + 2) (judge s of)) (search rules) (ap (λ j. wants is_seq (at + 2) j) (search rules)) (search rules)

pub check_minus-returns-clause-faults : goal.check_minus-returns-clause-faults
check_minus-returns-clause-faults t c =
    let of = view c.args.of.now in
    let s = names_tree c.args.names.now in
    let at = c.args.progress.now.at in
    let begun = c.check_term.new.progress in
    keep_both (least_tree c.args.progress.now.least) (least_tree begun.least) (least_tree c.end_minus.new.progress.least) (faults s (at + 1) of) (wants is_whole (at + 1) (judged_tree c.in_ok-of.of)) (wants is_whole (at + 1) (judge s of)) (search rules) (ap (λ j. wants is_whole (at + 1) j) (search rules)) (search rules)

pub check_not-returns-clause-faults : goal.check_not-returns-clause-faults
check_not-returns-clause-faults t c =
    let of = view c.args.of.now in
    let s = names_tree c.args.names.now in
    let at = c.args.progress.now.at in
    let begun = c.check_term.new.progress in
    keep_both (least_tree c.args.progress.now.least) (least_tree begun.least) (least_tree c.end_not.new.progress.least) (faults s (at + 1) of) (wants is_truth (at + 1) (judged_tree c.in_ok-of.of)) (wants is_truth (at + 1) (judge s of)) (search rules) (ap (λ j. wants is_truth (at + 1) j) (search rules)) (search rules)

pub check_item-returns-clause-faults : goal.check_item-returns-clause-faults
check_item-returns-clause-faults t c =
    let u = view c.args.item.now in
    let s = names_tree c.args.names.now in
    let at = c.args.progress.now.at in
    let begun = c.check_term.new.progress in
    let j = judged_tree c.args.list in
    let rest : Option Judged → List Fault = λ k. wants is_seq c.args.place j ++ append_faults (at + 1) j k in
    keep_both (least_tree c.args.progress.now.least) (least_tree begun.least) (least_tree c.end_append.new.progress.least) (faults s (at + 1) u) (rest (judged_tree c.in_ok-item.item)) (rest (judge s u)) (search rules) (ap rest (search rules)) (search rules)

pub check_right-returns-clause-faults : goal.check_right-returns-clause-faults
check_right-returns-clause-faults t c =
    let u = view c.args.right.now in
    let s = names_tree c.args.names.now in
    let at = c.args.progress.now.at in
    let begun = c.check_term.new.progress in
    let j = judged_tree c.args.left in
    let rest : Option Judged → List Fault = λ k. compare_faults c.args.relation (at + 1) j k in
    keep_both (least_tree c.args.progress.now.least) (least_tree begun.least) (least_tree c.end_compare.new.progress.least) (faults s (at + 1) u) (rest (judged_tree c.in_ok-right.right)) (rest (judge s u)) (search rules) (ap rest (search rules)) (search rules)

pub check_product-returns-clause-faults : goal.check_product-returns-clause-faults
check_product-returns-clause-faults t c =
    let others = pack_factors (map view_factor c.args.factors.now) in
    let s = names_tree c.args.names.now in
    let noted = c.note_unless_whole.new.progress in
    keep_both (least_tree c.args.progress.now.least) (least_tree noted.least) (least_tree c.check_factors.new.progress.least) (wants is_whole c.args.place (judged_tree c.args.first)) (factors_faults s noted.at others) (factors_faults s c.args.progress.now.at others) (search rules) (ap (λ n. factors_faults s n others) (search rules)) (search rules)

pub check_sum-returns-clause-faults : goal.check_sum-returns-clause-faults
check_sum-returns-clause-faults t c =
    let others = pack_addends (map view_addend c.args.addends.now) in
    let s = names_tree c.args.names.now in
    let noted = c.note_unless_whole.new.progress in
    keep_both (least_tree c.args.progress.now.least) (least_tree noted.least) (least_tree c.check_addends.new.progress.least) (wants is_whole c.args.place (judged_tree c.args.first)) (addends_faults s noted.at others) (addends_faults s c.args.progress.now.at others) (search rules) (ap (λ n. addends_faults s n others) (search rules)) (search rules)

pub check_joined-returns-clause-faults : goal.check_joined-returns-clause-faults
check_joined-returns-clause-faults t c =
    let others = pack_terms (map view c.args.others.now) in
    let s = names_tree c.args.names.now in
    let noted = c.note_unless_truth.new.progress in
    keep_both (least_tree c.args.progress.now.least) (least_tree noted.least) (least_tree c.check_truths.new.progress.least) (wants is_truth c.args.place (judged_tree c.args.first)) (truths_faults s noted.at others) (truths_faults s c.args.progress.now.at others) (search rules) (ap (λ n. truths_faults s n others) (search rules)) (search rules)

pub check_truths-loop-other-preserved : goal.check_truths-loop-other-preserved
check_truths-loop-other-preserved t c =
    let xs = c.args.others.now in
    let i = c.loop-other.other-index in
    let more : drop i xs ≡ c.other-item.result ∷ drop (i + 1) xs = drop_at xs i c.other-item.result c.other-item.is c.loop-other-test.true in
    let u = view c.other-item.result in
    let us = pack_terms (map view (drop (i + 1) xs)) in
    let s = names_tree c.args.names.now in
    let old = c.loop-other.progress in
    let new = c.join_truth.new.progress in
    let judged : judged_tree c.in_ok-right.right ≡ judge s u = search rules in
    let next : new.at ≡ old.at + size u + 1 = search (rules, arith) in
    let faulted = keep_parts (least_tree old.least) (least_tree c.check_term.new.progress.least) (least_tree new.least) _ (faults s (old.at + 1) u) (wants is_truth (old.at + 1) (judged_tree c.in_ok-right.right)) (wants is_truth (old.at + 1) (judge s u)) (truths_faults s new.at us) (truths_faults s (old.at + size u + 1) us) (search rules) (ap (λ j. wants is_truth (old.at + 1) j) judged) (search rules) (ap (λ n. truths_faults s n us) next) refl in
    let core : core_tree c.in_ok-core.core ≡ joined c.args.operator (core_tree c.loop-other.core) (truth_of (judge s u)) = search rules in
    record {
      at = search (rules, arith);
      faults = faulted ∙ ap (λ ys. keep (least_tree old.least) (truths_faults s old.at (pack_terms (map view ys)))) (sym more) ∙ c.loop-other.invariant.faults;
      meant = ap (λ x. combined s c.args.operator x us) core ∙ ap (λ ys. combined s c.args.operator (core_tree c.loop-other.core) (pack_terms (map view ys))) (sym more) ∙ c.loop-other.invariant.meant;
    }

pub check_indexes-loop-index-preserved : goal.check_indexes-loop-index-preserved
check_indexes-loop-index-preserved t c =
    let xs = c.args.indexes.now in
    let i = c.loop-index.index-index in
    let more : drop i xs ≡ c.index-item.result ∷ drop (i + 1) xs = drop_at xs i c.index-item.result c.index-item.is c.loop-index-test.true in
    let u = view c.index-item.result in
    let us = pack_terms (map view (drop (i + 1) xs)) in
    let s = names_tree c.args.names.now in
    let first = c.args.first in
    let old = c.loop-index.progress in
    let new = c.end_element.new.progress in
    let j = judged_tree c.loop-index.found in
    let judged : judged_tree c.in_ok-by.by ≡ judge s u = search rules in
    let next : new.at ≡ old.at + size u + 2 = search (rules, arith) in
    let found : judged_tree c.in_ok-found.found ≡ element_of j (judge s u) = search rules in
    let same = ap (λ n. indexes_faults s first (judged_tree c.in_ok-found.found) n us) next ∙ ap (λ k. indexes_faults s first k (old.at + size u + 2) us) found in
    let faulted = keep_parts (least_tree old.least) (least_tree c.check_term.new.progress.least) (least_tree new.least) _ (faults s (old.at + 1) u) (index_faults first (old.at + 1) j (judged_tree c.in_ok-by.by)) (index_faults first (old.at + 1) j (judge s u)) (indexes_faults s first (judged_tree c.in_ok-found.found) new.at us) (indexes_faults s first (element_of j (judge s u)) (old.at + size u + 2) us) (search rules) (ap (λ k. index_faults first (old.at + 1) j k) judged) (search rules) same refl in
    record {
      at = search (rules, arith);
      faults = faulted ∙ ap (λ ys. keep (least_tree old.least) (indexes_faults s first j old.at (pack_terms (map view ys)))) (sym more) ∙ c.loop-index.invariant.faults;
      meant = ap (λ k. indexed s k us) found ∙ ap (λ ys. indexed s j (pack_terms (map view ys))) (sym more) ∙ c.loop-index.invariant.meant;
    }

pub check_addends-loop-addend-preserved : goal.check_addends-loop-addend-preserved
check_addends-loop-addend-preserved t c =
    let xs = c.args.addends.now in
    let i = c.loop-addend.addend-index in
    let x = c.addend-item.result in
    let u = view x.term in
    let seen : view_addend x ≡ (x.sign, u) = search (rules, addend.the_lemmas) in
    let more : map view_addend (drop i xs) ≡ (x.sign, u) ∷ map view_addend (drop (i + 1) xs) =
    ap (map view_addend) (drop_at xs i x c.addend-item.is c.loop-addend-test.true) ∙ ap (λ a. a ∷ map view_addend (drop (i + 1) xs)) seen in
    let us = pack_addends (map view_addend (drop (i + 1) xs)) in
    let s = names_tree c.args.names.now in
    let old = c.loop-addend.progress in
    let new = c.join_whole.new.progress in
    let judged : judged_tree c.in_ok-right.right ≡ judge s u = search rules in
    let next : new.at ≡ old.at + size u + 1 = search (rules, arith) in
    let faulted = keep_parts (least_tree old.least) (least_tree c.check_term.new.progress.least) (least_tree new.least) _ (faults s (old.at + 1) u) (wants is_whole (old.at + 1) (judged_tree c.in_ok-right.right)) (wants is_whole (old.at + 1) (judge s u)) (addends_faults s new.at us) (addends_faults s (old.at + size u + 1) us) (search rules) (ap (λ j. wants is_whole (old.at + 1) j) judged) (search rules) (ap (λ n. addends_faults s n us) next) refl in
    let core : core_tree c.in_ok-core.core ≡ joined (operator_of x.sign) (core_tree c.loop-addend.core) (whole_of (judge s u)) = search rules in
    record {
      at = search (rules, arith);
      faults = faulted ∙ ap (λ ys. keep (least_tree old.least) (addends_faults s old.at (pack_addends ys))) (sym more) ∙ c.loop-addend.invariant.faults;
      meant = ap (λ y. added s y us) core ∙ ap (λ ys. added s (core_tree c.loop-addend.core) (pack_addends ys)) (sym more) ∙ c.loop-addend.invariant.meant;
    }

pub check_factors-loop-factor-preserved : goal.check_factors-loop-factor-preserved
check_factors-loop-factor-preserved t c =
    let xs = c.args.factors.now in
    let i = c.loop-factor.factor-index in
    let x = c.factor-item.result in
    let more : drop i xs ≡ x ∷ drop (i + 1) xs = drop_at xs i x c.factor-item.is c.loop-factor-test.true in
    let f = view_factor x in
    let fs = pack_factors (map view_factor (drop (i + 1) xs)) in
    let s = names_tree c.args.names.now in
    let old = c.loop-factor.progress in
    let new = c.check_factor.new.progress in
    let faulted = factors_step s (least_tree old.least) (least_tree new.least) old.at new.at f fs (search rules) (search rules) in
    let core : core_tree c.in_ok-core.core ≡ multiplied s (core_tree c.loop-factor.core) (more_factors f no_factor) = search rules in
    record {
      at = search (rules, arith);
      faults = faulted ∙ ap (λ ys. keep (least_tree old.least) (factors_faults s old.at (pack_factors (map view_factor ys)))) (sym more) ∙ c.loop-factor.invariant.faults;
      meant = ap (λ y. multiplied s y fs) core ∙ multiplied_more s (core_tree c.loop-factor.core) f fs ∙ ap (λ ys. multiplied s (core_tree c.loop-factor.core) (pack_factors (map view_factor ys))) (sym more) ∙ c.loop-factor.invariant.meant;
    }

pub check_factor-returns-in_ok-core-in-Times-clause-faults : goal.check_factor-returns-in_ok-core-in-Times-clause-faults
check_factor-returns-in_ok-core-in-Times-clause-faults t c =
    let u = view c.in-Times.term in
    let is : view_factor c.args.factor.now ≡ Times u = search (rules, the_lemmas) in
    let s = names_tree c.args.names.now in
    let at = c.args.progress.now.at in
    let begun = c.check_term.new.progress in
    rw is (keep_three (least_tree c.args.progress.now.least) (least_tree begun.least) (least_tree c.join_whole.new.progress.least) _ (faults s (at + 1) u) (wants is_whole (at + 1) (judged_tree c.in_ok-right-in-Times.right)) (wants is_whole (at + 1) (judge s u)) [] (search (rules, the_lemmas)) (ap (λ j. wants is_whole (at + 1) j) (search (rules, the_lemmas))) (search (rules, the_lemmas)) refl)
