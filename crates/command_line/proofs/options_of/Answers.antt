use Rattle.command_line.proofs.Locals.{nothing}
use Rattle.command_line.proofs.options_of.Goals as goal

pub returns-in_err-turns : goal.returns-in_err-turns
returns-in_err-turns c = nothing _ _ _ c.from_residual.ensures (λ o h. c.in_err-turns.ensures o h.turns)
