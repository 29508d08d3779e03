use Rattle.std.proofs.Common.{◌∙◌, sym, ap, map, refl}
use Rattle.terms.specs.Linked.{opened}
use Rattle.terms.specs.TermTree.{linked, link_tree, operand_tree}
use Rattle.conditions.proofs.Bounding.{left_gives, right_gives}
use Rattle.conditions.proofs.bounds.equal_bound.Goals as goal

pub returns-then-is_alone : goal.returns-then-is_alone
returns-then-is_alone c =
    right_gives c.args.p (linked (operand_tree c.args.first.now) (map link_tree c.args.before.now)) (link_tree c.args.link.now) c.in-Some.right.now c.in_ok-copy.field-0 c.in-Some.ensures (c.if-is_alone.ensures refl) c.in_ok-copy.ensures c.within.result c.within.ensures.same c.within.ensures.within

pub returns-then-is_alone-2 : goal.returns-then-is_alone-2
returns-then-is_alone-2 c =
    let right = c.in-Some.right.now in
    left_gives c.args.p (linked (operand_tree c.args.first.now) (map link_tree c.args.before.now)) (link_tree c.args.link.now) right c.in_ok-chain.field-0 c.in-Some.ensures (opened right ∙ ap (λ ls. linked (operand_tree right.first) (map link_tree ls)) (sym c.as_slice.ensures.value) ∙ c.if-is_alone-2.ensures refl) c.in_ok-chain.ensures c.within-then-is_alone-2.result c.within-then-is_alone-2.ensures.same c.within-then-is_alone-2.ensures.within
