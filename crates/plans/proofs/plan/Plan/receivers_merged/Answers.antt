use Rattle.std.proofs.Common.{ℕ, ◌≡◌, List, ◌∙◌, ap, subst, IfOk}
use Rattle.std.specs.Prelude.{filter}
use Rattle.plans.specs.Plans.{composition}
use Rattle.io_automata.specs.Signatures.{receives}
use Rattle.plans.proofs.plan.Plan.receivers_merged.Goals as goal

pub returns : goal.returns
returns c =
    let test = receives (composition c.args.self.now) c.args.sender c.args.action.now in
    let is = ap (filter test) c.as_slice.ensures.value ∙ c.in_ok-candidates.ensures c.args.sender in
    subst (λ (numbers : List ℕ). IfOk c.receivers_among-receivers.result (λ receivers. receivers.items ≡ numbers)) is c.receivers_among-receivers.ensures
