use Rattle.command_line.proofs.Locals.{nothing}
use Rattle.command_line.proofs.hunting.hunting_of.Goals as goal

pub returns-in_err-seeds : goal.returns-in_err-seeds
returns-in_err-seeds c = nothing _ _ _ c.from_residual.ensures (λ h is. c.in_err-seeds.ensures h.seeds is.seeds)

pub returns-in_err-stream : goal.returns-in_err-stream
returns-in_err-stream c = nothing _ _ _ c.from_residual-in_err-stream.ensures (λ h is. c.in_err-stream.ensures h.stream is.stream)

pub returns-in_err-gap : goal.returns-in_err-gap
returns-in_err-gap c = nothing _ _ _ c.from_residual-in_err-gap.ensures (λ h is. c.in_err-gap.ensures h.gap is.gap)

pub returns-in_err-ticks : goal.returns-in_err-ticks
returns-in_err-ticks c = nothing _ _ _ c.from_residual-in_err-ticks.ensures (λ h is. c.in_err-ticks.ensures h.ticks is.ticks)

pub returns-in_err-workers : goal.returns-in_err-workers
returns-in_err-workers c = nothing _ _ _ c.from_residual-in_err-workers.ensures (λ h is. c.in_err-workers.ensures h.workers is.workers)
