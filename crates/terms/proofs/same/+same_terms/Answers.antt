use Rattle.std.proofs.Common.{rules}
use Rattle.terms.proofs.Trees.{begins_apart, goes_on, links_apart}
use Rattle.terms.proofs.same.+same_terms.Goals as goal

pub are_same_links-returns-then-a-b : goal.are_same_links-returns-then-a-b
are_same_links-returns-then-a-b t c = links_apart c.args.a.now c.args.b.now (search rules)

pub is_same_term-returns-then-is_same_operand : goal.is_same_term-returns-then-is_same_operand
is_same_term-returns-then-is_same_operand t c =
    goes_on c.args.a.now c.args.b.now c.as_slice.result.now c.as_slice-then-is_same_operand.result.now c.is_same_operand.result c.are_same_links.result
    c.is_same_operand.ensures.same c.is_same_operand.ensures.first c.is_same_operand.ensures.other c.if-is_same_operand.true
    c.as_slice.ensures.value c.as_slice-then-is_same_operand.ensures.value c.are_same_links.ensures

pub is_same_term-returns-else-is_same_operand : goal.is_same_term-returns-else-is_same_operand
is_same_term-returns-else-is_same_operand t c =
    begins_apart c.args.a.now c.args.b.now c.is_same_operand.result
    c.is_same_operand.ensures.same c.is_same_operand.ensures.first c.is_same_operand.ensures.other c.if-is_same_operand.false
