use Rattle.command_line.proofs.Lacking.{asks_nothing, without_drive}
use Rattle.command_line.proofs.asked_drive.Goals as goal

pub returns-in_err-options : goal.returns-in_err-options
returns-in_err-options c = asks_nothing _ _ c.from_residual-in_err-options.ensures (without_drive _ (λ text o _ h. c.in_err-options.ensures o h))
