use Rattle.std.proofs.Common.{subst}
use Rattle.std.proofs.Props.{props}
use Rattle.std.proofs.Math.Logic.{∥∥₁_elim}
use Rattle.plans.specs.Plans.{composition}
use Rattle.plans.proofs.Candidates.{HasListed, receivers_among, taker_found}
use Rattle.plans.proofs.plan.Plan.merged.Goals as goal

pub returns : goal.returns
returns c sender =
    let all = composition c.args.self.now in
    let action = c.args.action.now in
    let found = c.in_ok-found.found.items in
    let listed = subst (λ index. HasListed index found action) c.deref.ensures c.in_ok-found.ensures.all in
    ∥∥₁_elim c.args.self.now.indexed (hlevel props) (λ indexed. receivers_among all action sender found c.in_ok-found.ensures.rise (taker_found c.args.self.now.index.value all found action indexed listed))
