use Rattle.std.proofs.Common.{refl}
use Rattle.terms.specs.Datum.{Just}
use Rattle.terms.specs.Linked.{read_by}
use Rattle.terms.specs.Meaning.{value}
use Rattle.terms.specs.Scopes.{scope}
use Rattle.terms.specs.TermTree.{operand_tree}
use Rattle.evaluation.proofs.plain.scalar_at_once.Goals as goal

pub returns : goal.returns
returns g c =
    read_by Just c.args.term.now c.as_slice-links.result.now (scope c.args.env.now) (g.C.Cells.values c.args.cells.now) (value (operand_tree c.args.term.now.first) (scope c.args.env.now) (g.C.Cells.values c.args.cells.now)) c.linked_scalar.result
    c.as_slice-links.ensures.value refl c.linked_scalar.ensures
