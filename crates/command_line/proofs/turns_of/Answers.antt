use Rattle.command_line.proofs.Locals.{nothing}
use Rattle.command_line.proofs.turns_of.Goals as goal

pub returns-in_err-seed : goal.returns-in_err-seed
returns-in_err-seed c = nothing _ _ _ c.from_residual.ensures (λ o h. c.in_err-seed.ensures o.seed h.seed)

pub returns-in_err-stream : goal.returns-in_err-stream
returns-in_err-stream c = nothing _ _ _ c.from_residual-in_err-stream.ensures (λ o h. c.in_err-stream.ensures o.stream h.stream)

pub returns-in_err-gap : goal.returns-in_err-gap
returns-in_err-gap c = nothing _ _ _ c.from_residual-in_err-gap.ensures (λ o h. c.in_err-gap.ensures o.gap h.gap)

pub returns-in_err-ticks : goal.returns-in_err-ticks
returns-in_err-ticks c = nothing _ _ _ c.from_residual-in_err-ticks.ensures (λ o h. c.in_err-ticks.ensures o.ticks h.ticks)
