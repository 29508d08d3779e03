use Rattle.std.proofs.Common.{◌∙◌}
use Rattle.plans.specs.Plans.{composition, hides}
use Rattle.io_automata.specs.External.{seen_is_external}
use Rattle.plans.proofs.plan.Plan.is_external.Goals as goal

pub returns : goal.returns
returns c =
    let plan = c.args.self.now in
    c.is_seen_somewhere.ensures ∙ seen_is_external (hides plan) (composition plan) c.args.action.now
