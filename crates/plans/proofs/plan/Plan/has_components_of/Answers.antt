use Rattle.std.proofs.Common.{◌≡◌, ◌∙◌, arith, length}
use Rattle.io_automata.specs.Automata.{absent}
use Rattle.plans.specs.Plans.{composition}
use Rattle.io_automata.specs.SameCompositions.{same_instance}
use Rattle.plans.proofs.Pairs.{by_places}
use Rattle.plans.proofs.plan.Plan.has_components_of.Goals as goal

pub returns-then-components : goal.returns-then-components
returns-then-components c =
    let own = composition c.args.self.now in
    let others = composition c.args.other.now in
    let long : length own ≡ length others = omega (arith, c.components.ensures, c.components-2.ensures, c.if-components.true) in
    c.has_each_component_of.ensures ∙ by_places same_instance absent own others long
