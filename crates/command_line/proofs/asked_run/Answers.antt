use Rattle.command_line.proofs.Lacking.{asks_nothing, without_run}
use Rattle.command_line.proofs.asked_run.Goals as goal

pub returns-in_err-options : goal.returns-in_err-options
returns-in_err-options c = asks_nothing _ _ c.from_residual.ensures (without_run _ (λ o crew h _. c.in_err-options.ensures o h))

pub returns-in_err-crew : goal.returns-in_err-crew
returns-in_err-crew c = asks_nothing _ _ c.from_residual-in_err-crew.ensures (without_run _ (λ o crew _ h. c.in_err-crew.ensures crew h))
