use Rattle.task_seed.specs.Setups.{plan_of, system}
use Rattle.commands.proofs.Streaming.{for_want, none_yet}
use Rattle.commands.proofs.simulating.simulate_on.Goals as goal

pub returns-in_err-shared-clause-unsimulated : goal.returns-in_err-shared-clause-unsimulated
returns-in_err-shared-clause-unsimulated g c =
    for_want _ c.from_residual.result c.from_residual.ensures.1 (none_yet (plan_of c.args.setup) (system g.T.Turns.turn_of c.args.setup) c.requires.known c.args.out.now)

pub returns-in_err-reference-clause-unsimulated : goal.returns-in_err-reference-clause-unsimulated
returns-in_err-reference-clause-unsimulated g c =
    for_want _ c.from_residual-in_err-reference.result c.from_residual-in_err-reference.ensures.1 (none_yet (plan_of c.args.setup) (system g.T.Turns.turn_of c.args.setup) c.requires.known c.args.out.now)
