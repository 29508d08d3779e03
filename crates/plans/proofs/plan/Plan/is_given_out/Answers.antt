use Rattle.std.proofs.Common.{◌∙◌}
use Rattle.plans.specs.Plans.{composition}
use Rattle.io_automata.specs.External.{given_somewhere}
use Rattle.plans.proofs.plan.Plan.is_given_out.Goals as goal

pub returns : goal.returns
returns c = c.is_output_somewhere.ensures ∙ given_somewhere (composition c.args.self.now) c.args.self.now.compatible c.args.action.now
