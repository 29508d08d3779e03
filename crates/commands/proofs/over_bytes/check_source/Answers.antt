use Rattle.std.proofs.Common.{inl, inr, refl}
use Rattle.commands.proofs.over_bytes.check_source.Goals as goal

pub returns-in-Ok : goal.returns-in-Ok
returns-in-Ok g c = inr (record { plan = c.in-Ok.plan; composed = c.in-Ok.ensures.ok; holds = c.check_plan.ensures })

pub returns-in-Err : goal.returns-in-Err
returns-in-Err g c = inl (c.in-Err.ensures.err, refl)
