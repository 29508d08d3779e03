use Rattle.command_line.proofs.Locals.{nothing}
use Rattle.command_line.proofs.drawing.ticks_of.Goals as goal

pub returns-in_err-from : goal.returns-in_err-from
returns-in_err-from c = nothing _ _ _ c.from_residual.ensures (λ t is. c.in_err-from.ensures t.from is.from)

pub returns-in_err-to : goal.returns-in_err-to
returns-in_err-to c = nothing _ _ _ c.from_residual-in_err-to.ensures (λ t is. c.in_err-to.ensures t.to is.to)
