use Rattle.std.proofs.Common.{ap, ◌∙◌}
use Rattle.io_automata.specs.Automata.{component_at}
use Rattle.plans.specs.Plans.{composition}
use Rattle.io_automata.specs.Found.{kind_found, kind-entry_in, disjoint_at}
use Rattle.plans.proofs.plan.Plan.kind.Goals as goal

pub returns-in-Some : goal.returns-in-Some
returns-in-Some c =
    let all = composition c.args.self.now in
    ap kind_found c.in-Some.ensures
    ∙ kind-entry_in (component_at all c.args.i) c.args.action.now (disjoint_at all c.args.self.now.compatible c.args.i c.args.action.now)

pub returns-in-None : goal.returns-in-None
returns-in-None c =
    let all = composition c.args.self.now in
    ap kind_found c.in-None.ensures
    ∙ kind-entry_in (component_at all c.args.i) c.args.action.now (disjoint_at all c.args.self.now.compatible c.args.i c.args.action.now)
