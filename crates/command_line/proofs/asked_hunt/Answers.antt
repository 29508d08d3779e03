use Rattle.command_line.proofs.Lacking.{asks_nothing, without_hunt}
use Rattle.command_line.proofs.asked_hunt.Goals as goal

pub returns-in_err-hunting : goal.returns-in_err-hunting
returns-in_err-hunting c = asks_nothing _ _ c.from_residual-in_err-hunting.ensures (without_hunt _ (λ text h _ is. c.in_err-hunting.ensures h is))
