use Rattle.command_line.proofs.Locals.{nothing}
use Rattle.command_line.proofs.crew_of.Goals as goal

pub returns-in_err-workers : goal.returns-in_err-workers
returns-in_err-workers c = nothing _ _ _ c.from_residual.ensures (λ crew h. c.in_err-workers.ensures crew.workers h.workers)

pub returns-in_err-budget : goal.returns-in_err-budget
returns-in_err-budget c = nothing _ _ _ c.from_residual-in_err-budget.ensures (λ crew h. c.in_err-budget.ensures crew.budget h.budget)

pub returns-in_err-window : goal.returns-in_err-window
returns-in_err-window c = nothing _ _ _ c.from_residual-in_err-window.ensures (λ crew h. c.in_err-window.ensures.chosen crew.window h.window)

pub returns-in_err-groups : goal.returns-in_err-groups
returns-in_err-groups c = nothing _ _ _ c.from_residual-in_err-groups.ensures (λ crew h. c.in_err-groups.ensures.chosen crew.groups h.groups)
