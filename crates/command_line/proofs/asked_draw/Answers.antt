use Rattle.command_line.proofs.Lacking.{asks_nothing, without_draw}
use Rattle.command_line.proofs.asked_draw.Goals as goal

pub returns-in_err-options : goal.returns-in_err-options
returns-in_err-options c = asks_nothing _ _ c.from_residual.ensures (without_draw _ (λ o t h _. c.in_err-options.ensures o h))

pub returns-in_err-ticks : goal.returns-in_err-ticks
returns-in_err-ticks c = asks_nothing _ _ c.from_residual-in_err-ticks.ensures (without_draw _ (λ o t _ h. c.in_err-ticks.ensures t h))
