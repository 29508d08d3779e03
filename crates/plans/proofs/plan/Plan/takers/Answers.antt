use Rattle.std.proofs.Common.{ℕ, ◌≡◌, List, ◌∙◌, ap, subst, IfOk, is_some}
use Rattle.std.specs.Prelude.{filter}
use Rattle.plans.specs.Plans.{composition}
use Rattle.io_automata.specs.Signatures.{kind_of}
use Rattle.plans.proofs.plan.Plan.takers.Goals as goal

pub returns : goal.returns
returns c =
    let test = λ (j : ℕ). is_some (kind_of (composition c.args.self.now) j c.args.action.now) in
    let is = ap (filter test) c.as_slice.ensures.value ∙ c.in_ok-candidates.ensures in
    subst (λ (numbers : List ℕ). IfOk c.with_action-takers.result (λ takers. takers.items ≡ numbers)) is c.with_action-takers.ensures
