use Rattle.std.proofs.Common.{ap, ◌∙◌}
use Rattle.std.specs.Prelude.{option_map}
use Rattle.task_seed.specs.Turning.{key_at}
use Rattle.task_seed.specs.Setups.{system}
use Rattle.task_seed.specs.Ticks.{key_after, reached_after, few_after}
use Rattle.task_seed.proofs.setup.Setup.next_tick.Goals as goal

pub returns-clause-key : goal.returns-clause-key
returns-clause-key g c =
    ap (option_map (key_at c.args.i c.args.n)) c.tick_after.ensures.value
    ∙ key_after (system g.T.Turns.turn_of c.args.self.now) c.args.i c.args.n c.args.tick c.requires

pub returns-clause-reached : goal.returns-clause-reached
returns-clause-reached g c =
    rw c.tick_after.ensures.value (reached_after (system g.T.Turns.turn_of c.args.self.now) c.args.i c.args.n c.args.tick c.requires)

pub returns-clause-bounded : goal.returns-clause-bounded
returns-clause-bounded g c =
    rw c.tick_after.ensures.value
    (few_after (system g.T.Turns.turn_of c.args.self.now) c.args.i c.args.n c.args.tick)
