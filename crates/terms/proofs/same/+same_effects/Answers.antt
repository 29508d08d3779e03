use Rattle.std.proofs.Common.{rules}
use Rattle.terms.proofs.Trees.{comes_to, ends_apart, parts_apart}
use Rattle.terms.proofs.same.+same_effects.Goals as goal

pub are_same_parts-returns-then-a-b : goal.are_same_parts-returns-then-a-b
are_same_parts-returns-then-a-b t c = parts_apart c.args.a.now c.args.b.now (search rules)

pub is_same_effect-returns-then-is_same_last : goal.is_same_effect-returns-then-is_same_last
is_same_effect-returns-then-is_same_last t c =
    comes_to c.args.a.now c.args.b.now c.as_slice.result.now c.as_slice-then-is_same_last.result.now c.is_same_last.result c.are_same_parts.result
    c.is_same_last.ensures.same c.is_same_last.ensures.first c.is_same_last.ensures.other c.if-is_same_last.true
    c.as_slice.ensures.value c.as_slice-then-is_same_last.ensures.value c.are_same_parts.ensures

pub is_same_effect-returns-else-is_same_last : goal.is_same_effect-returns-else-is_same_last
is_same_effect-returns-else-is_same_last t c =
    ends_apart c.args.a.now c.args.b.now c.is_same_last.result
    c.is_same_last.ensures.same c.is_same_last.ensures.first c.is_same_last.ensures.other c.if-is_same_last.false
