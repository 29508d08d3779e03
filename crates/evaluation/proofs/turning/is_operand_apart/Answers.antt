use Rattle.evaluation.proofs.Carried.{apart_cell}
use Rattle.evaluation.proofs.turning.is_operand_apart.Goals as goal

pub returns-in-Cell : goal.returns-in-Cell
returns-in-Cell c h = apart_cell c.args.operand.now c.args.cell c.in-Cell.n c.in-Cell.is h
