use Rattle.std.proofs.Common.{subst}
use Rattle.std.proofs.Props.{props}
use Rattle.std.proofs.Math.Logic.{∥∥₁_elim}
use Rattle.plans.specs.Plans.{composition}
use Rattle.plans.proofs.Candidates.{HasListed, takers_among, actor_found}
use Rattle.plans.proofs.plan.Plan.takers_among.Goals as goal

pub returns : goal.returns
returns c =
    let all = composition c.args.self.now in
    let action = c.args.action.now in
    let found = c.in_ok-found.found.items in
    let listed = subst (λ index. HasListed index found action) c.deref.ensures c.in_ok-found.ensures.all in
    ∥∥₁_elim c.args.self.now.entered (hlevel props) (λ entered. takers_among all action found c.in_ok-found.ensures.rise (actor_found c.args.self.now.entries.value all found action entered listed))
