use Rattle.plans.specs.Plans.{composition}
use Rattle.io_automata.specs.TurnSteps.{turn_is_step as step_of_turn}
use Rattle.plans.proofs.laws.turn_is_step.Goals as goal

pub returns : goal.returns
returns c i task choice state action is = step_of_turn (composition c.args.plan.now) c.args.plan.now.compatible c.args.plan.now.formed i task choice state action is
