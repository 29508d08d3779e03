use Rattle.evaluation.proofs.Carried.{apart_by}
use Rattle.evaluation.proofs.turning.+apart.Goals as goal

pub is_apart-returns-then-first : goal.is_apart-returns-then-first
is_apart-returns-then-first t c h =
    apart_by c.args.term.now c.as_slice.result.now c.args.cell
    c.as_slice.ensures.value (c.is_operand_apart-first.ensures c.if-first.true) (c.are_apart-links.ensures h)
