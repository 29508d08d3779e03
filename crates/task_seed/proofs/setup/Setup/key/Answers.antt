use Rattle.std.proofs.Common.{sym, arith}
use Rattle.task_seed.specs.Setups.{system}
use Rattle.task_seed.specs.Ticks.{no_later_key}
use Rattle.task_seed.proofs.setup.Setup.key.Goals as goal

pub returns-in-None-clause-value : goal.returns-in-None-clause-value
returns-in-None-clause-value g c =
    sym (no_later_key (system g.T.Turns.turn_of c.args.self.now) c.args.i c.loop-k.k c.args.n (omega arith) c.in-None.ensures.key)
