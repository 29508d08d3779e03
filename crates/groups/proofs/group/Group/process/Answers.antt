use Rattle.groups.proofs.Kept.{told_done, told_refused}
use Rattle.groups.proofs.group.Group.process.Goals as goal

pub returns-in-Ok-clause-nothing : goal.returns-in-Ok-clause-nothing
returns-in-Ok-clause-nothing g c = told_done c.in-Ok.key c.in-Ok.ensures.nothing

pub returns-in-Err-clause-nothing : goal.returns-in-Err-clause-nothing
returns-in-Err-clause-nothing g c = told_refused c.in-Err.stop c.refusal.result c.refusal.ensures c.in-Err.ensures.nothing

pub returns-in-Ok-clause-step : goal.returns-in-Ok-clause-step
returns-in-Ok-clause-step g c = c.in-Ok.ensures.step.0
