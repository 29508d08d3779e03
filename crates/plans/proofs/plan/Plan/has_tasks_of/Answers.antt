use Rattle.std.proofs.Common.{◌∙◌, refl, nat_eq}
use lib.Pointwise.{pointwise}
use Rattle.io_automata.specs.Automata.{component_at, items_in}
use Rattle.plans.specs.Plans.{composition}
use Rattle.plans.proofs.Pairs.{by_views}
use Rattle.plans.proofs.plan.Plan.has_tasks_of.Goals as goal

pub returns : goal.returns
returns c =
    let tasks = (component_at (composition c.args.self.now) c.args.i).tasks in
    let others = (component_at (composition c.args.other.now) c.args.i).tasks in
    c.eq.ensures
    ∙ by_views items_in (λ a b. pointwise nat_eq a.items b.items) (pointwise nat_eq) (λ a b. refl) c.task_list.result.now c.task_list-2.result.now tasks others c.task_list.ensures c.task_list-2.ensures
