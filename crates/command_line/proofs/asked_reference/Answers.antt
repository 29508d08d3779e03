use Rattle.command_line.proofs.Lacking.{asks_nothing, without_reference}
use Rattle.command_line.proofs.asked_reference.Goals as goal

pub returns-in_err-options : goal.returns-in_err-options
returns-in_err-options c = asks_nothing _ _ c.from_residual.ensures (without_reference _ c.in_err-options.ensures)
