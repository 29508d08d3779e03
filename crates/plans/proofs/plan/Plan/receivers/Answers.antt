use Rattle.std.proofs.Common.{ℕ, ◌≡◌, List, subst, IfOk, IfSome}
use Rattle.std.specs.Prelude.{filter}
use Rattle.plans.specs.Plans.{composition}
use Rattle.io_automata.specs.Signatures.{receives, receivers_of}
use Rattle.plans.proofs.plan.Plan.receivers.Goals as goal

pub returns-in-Some : goal.returns-in-Some
returns-in-Some c =
    let all = composition c.args.self.now in
    let action = c.args.action.now in
    let is = subst (λ lent. IfSome lent (λ found. (sender : ℕ) → filter (receives all sender action) found.now ≡ receivers_of all action sender)) c.in-Some.is c.lent.ensures.all in
    subst (λ (numbers : List ℕ). IfOk c.receivers_among.result (λ receivers. receivers.items ≡ numbers)) (is c.args.sender) c.receivers_among.ensures
