use Rattle.std.proofs.Common.{◌≡◌, ◌∙◌, IfOk, List, subst}
use Rattle.terms.specs.Named.{Named}
use Rattle.plans.specs.Plans.{composition}
use Rattle.plans.proofs.Tasks.{enabled_same, nothing_enabled}
use Rattle.plans.proofs.plan.Plan.enabled.Goals as goal

pub returns-in-Some : goal.returns-in-Some
returns-in-Some g c =
    let same = enabled_same (composition c.args.self.now) c.args.i c.args.task c.in-Some.task (g.C.Cells.values c.args.cells.now) c.in-Some.ensures.some in
    subst (λ (all : List Named). IfOk c.enabled.result (λ actions. actions.items ≡ all)) same c.enabled.ensures

pub returns-in-None : goal.returns-in-None
returns-in-None g c = c.new.ensures.items ∙ nothing_enabled (composition c.args.self.now) c.args.i c.args.task (g.C.Cells.values c.args.cells.now) c.in-None.ensures.none
