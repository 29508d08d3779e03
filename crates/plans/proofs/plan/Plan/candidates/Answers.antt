use Rattle.std.proofs.Common.{◌++◌, ◌∷◌, [], subst}
use Rattle.std.specs.Prelude.{◌≡◌, ℕ}
use Rattle.std.specs.List.Sorted.{IsStrictlyIncreasing}
use Rattle.plans.specs.Plans.{composition}
use Rattle.io_automata.specs.Receivers.{AreCandidates}
use Rattle.io_automata.specs.Signatures.{receivers_of}
use Rattle.plans.proofs.Passing.{lent_are, receivers_are, if_ok}
use Rattle.plans.proofs.plan.Plan.candidates.Goals as goal

pub returns-then-is_above : goal.returns-then-is_above
returns-then-is_above c =
    let numbers = c.in-Some.numbers.now in
    let above = c.is_above.ensures c.if-is_above.true c.in-Some.ensures.rise in
    lent_are (composition c.args.self.now) c.args.action.now c.args.sender numbers c.in-Some.ensures.rise
    (subst (λ (n : ℕ). IsStrictlyIncreasing (numbers ++ n ∷ [])) c.components.ensures above) (c.in-Some.ensures.all c.args.sender)

pub returns : goal.returns
returns c =
    let all = composition c.args.self.now in
    if_ok c.put_receivers.result (λ found. found.now ≡ receivers_of all c.args.action.now c.args.sender) (λ found. AreCandidates all c.args.action.now c.args.sender found.now) c.put_receivers.ensures
    (λ found is. receivers_are all c.args.action.now c.args.sender found.now is)
