use Rattle.std.proofs.Common.{rules}
use Rattle.evaluation.proofs.Carried.{carried_by}
use Rattle.terms.specs.Scopes.{scope}
use Rattle.terms.specs.Shapes.{members}
use Rattle.evaluation.proofs.turning.number_left.Goals as goal

pub returns-then-are_apart : goal.returns-then-are_apart
returns-then-are_apart g c =
    carried_by c.args.term.now c.as_slice-links.result.now c.args.slot c.args.cell (scope c.args.env.now) (g.C.Cells.values c.args.cells.now) (members c.args.listed) c.in_ok-first.first c.number_carried.result
    c.as_slice-links.ensures.value c.in_ok-first.ensures.0 c.in_ok-first.ensures.1 (c.are_apart.ensures c.if-are_apart.true) (search rules)
