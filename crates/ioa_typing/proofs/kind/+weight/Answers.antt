use Rattle.std.proofs.Common.{rules, ◌≡◌}
use Rattle.ioa_typing.specs.declared.kind.Kind.{the_lemmas}
use Rattle.ioa_trees.specs.Kinds.{weight, count, SeqOf, ArrayOf}
use Rattle.ioa_typing.specs.KindViews.{kind_tree}
use Rattle.ioa_typing.proofs.Capped.{product_is}
use Rattle.ioa_typing.proofs.kind.+weight.Goals as goal

pub returns-in-Seq : goal.returns-in-Seq
returns-in-Seq t c =
    let is : kind_tree c.args.kind.now ≡ SeqOf (kind_tree c.in-Seq.item.value) c.in-Seq.most = search (rules, the_lemmas) in
    rw is (product_is c.in-Seq.most (weight (kind_tree c.in-Seq.item.value)) c.capped_product.ensures (search (rules, the_lemmas)) (search (rules, the_lemmas)))

pub returns-in-Array : goal.returns-in-Array
returns-in-Array t c =
    let is : kind_tree c.args.kind.now ≡ ArrayOf (kind_tree c.in-Array.index.value) (kind_tree c.in-Array.item.value) = search (rules, the_lemmas) in
    rw is (product_is (count (kind_tree c.in-Array.index.value)) (weight (kind_tree c.in-Array.item.value)) c.capped_product-in-Array.ensures (search (rules, the_lemmas)) (search (rules, the_lemmas)))
