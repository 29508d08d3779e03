use Rattle.plans.specs.Plans.{composition}
use Rattle.plans.proofs.Listing.{once, only}
use Rattle.plans.proofs.laws.enabled_is_complete.Goals as goal

pub returns-clause-once : goal.returns-clause-once
returns-clause-once c i task state action enabled = once (composition c.args.plan.now) c.args.plan.now.formed i task state action enabled

pub returns-clause-only : goal.returns-clause-only
returns-clause-only c i task state action listed = only (composition c.args.plan.now) c.args.plan.now.formed i task state action listed
