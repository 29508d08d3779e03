use Rattle.std.proofs.Common.{length}
use Rattle.plans.specs.Plans.{composition}
use Rattle.task_seed.specs.Setups.{plan_of}
use Rattle.exchange.proofs.Pooled.{alike_from, once_from}
use Rattle.exchange.proofs.laws.pooled_leases_law.Goals as goal

pub returns-clause-once : goal.returns-clause-once
returns-clause-once g c setup = once_from g.T.Turns.turn_of setup 0 (length (composition (plan_of setup)))

pub returns-clause-alike : goal.returns-clause-alike
returns-clause-alike g c setup = alike_from g.T.Turns.turn_of setup 0 (length (composition (plan_of setup)))
