use Rattle.std.proofs.Common.{rules, arith, ◌≡◌, ◌++◌, ◌+◌, ℕ, List, ap}
use Rattle.ioa_trees.specs.declared.tree.TypeTree.{the_lemmas}
use Rattle.ioa_trees.specs.Trees.{SeqOf, ArrayOf}
use Rattle.ioa_trees.specs.Views.{view_type}
use Rattle.ioa_trees.specs.Sizes.{type_size}
use Rattle.ioa_trees.specs.TypeRules.{type_faults, kind_of, is_bad_bound, overweight}
use Rattle.ioa_trees.specs.Faults.{Fault, where_wrong}
use Rattle.ioa_typing.specs.NameViews.{names_tree}
use Rattle.ioa_typing.specs.TermViews.{least_tree}
use Rattle.ioa_typing.proofs.Keeps.{keep_both, keep_three}
use Rattle.ioa_typing.proofs.types.+check_type.Goals as goal

pub returns-in_ok-kind-in-Seq-clause-faults : goal.returns-in_ok-kind-in-Seq-clause-faults
returns-in_ok-kind-in-Seq-clause-faults t c =
    let item = view_type c.in-Seq.item.value in
    let most = c.in-Seq.most in
    let is : view_type c.args.tree.now ≡ SeqOf item most = search (rules, the_lemmas) in
    let s = names_tree c.args.names.now in
    let at = c.args.progress.now.at in
    let first = c.check_type.new.progress in
    let rest : ℕ → List Fault = λ n. where_wrong (is_bad_bound most) n 17 ++ overweight at (kind_of s (SeqOf item most)) in
    rw is (keep_both (least_tree c.args.progress.now.least) (least_tree first.least) _ (type_faults s (at + 2) item) (rest (first.at + 1)) (rest (at + type_size item + 3)) (search (rules, the_lemmas)) (ap rest (search (rules, the_lemmas, arith))) (search (rules, the_lemmas)))

pub returns-in_ok-kind-in-Array-clause-faults : goal.returns-in_ok-kind-in-Array-clause-faults
returns-in_ok-kind-in-Array-clause-faults t c =
    let index = view_type c.in-Array.index.value in
    let item = view_type c.in-Array.item.value in
    let is : view_type c.args.tree.now ≡ ArrayOf index item = search (rules, the_lemmas) in
    let s = names_tree c.args.names.now in
    let first = c.check_type-in-Array.new.progress in
    let second = c.check_type-in-Array-2.new.progress in
    rw is (keep_three (least_tree c.args.progress.now.least) (least_tree first.least) (least_tree second.least) _ (type_faults s (c.args.progress.now.at + 2) index) (type_faults s (first.at + 1) item) (type_faults s (c.args.progress.now.at + type_size index + 3) item) _ (search (rules, the_lemmas)) (ap (λ n. type_faults s n item) (search (rules, the_lemmas, arith))) (search (rules, the_lemmas)) (search (rules, the_lemmas)))
