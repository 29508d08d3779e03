use Rattle.std.proofs.Common.{ℕ, ◌≡◌, subst}
use Rattle.std.proofs.Props.{props}
use Rattle.std.proofs.Math.Logic.{∥∥₁_elim}
use Rattle.std.specs.Prelude.{filter}
use Rattle.std.specs.List.Sorted.{IsStrictlyIncreasing}
use Rattle.plans.specs.Plans.{composition}
use Rattle.patterns.specs.Patterns.{Kept, AreRising}
use Rattle.io_automata.specs.Signatures.{receives, receivers_of}
use Rattle.plans.proofs.Candidates.{HasListed, receivers_among, taker_found, if_both}
use Rattle.plans.proofs.plan.Plan.lent.Goals as goal

pub returns-clause-all : goal.returns-clause-all
returns-clause-all c =
    let all = composition c.args.self.now in
    let action = c.args.action.now in
    if_both c.lent-found.result (λ found. AreRising c.deref.result.now.numbers → IsStrictlyIncreasing found.now) (λ found. HasListed c.deref.result.now found.now action) (λ found. (sender : ℕ) → filter (receives all sender action) found.now ≡ receivers_of all action sender) c.lent-found.ensures.rise c.lent-found.ensures.all
    (λ found rise every sender.
    let rises = subst (λ (index : Kept). AreRising index.numbers → IsStrictlyIncreasing found.now) c.deref.ensures rise in
    let listed = subst (λ index. HasListed index found.now action) c.deref.ensures every in
    ∥∥₁_elim c.args.self.now.indexed (hlevel props) (λ indexed. receivers_among all action sender found.now (rises indexed.rising) (taker_found c.args.self.now.index.value all found.now action indexed listed)))

pub returns-clause-rise : goal.returns-clause-rise
returns-clause-rise c =
    let action = c.args.action.now in
    if_both c.lent-found.result (λ found. AreRising c.deref.result.now.numbers → IsStrictlyIncreasing found.now) (λ found. HasListed c.deref.result.now found.now action) (λ found. IsStrictlyIncreasing found.now) c.lent-found.ensures.rise c.lent-found.ensures.all
    (λ found rise every.
    let rises = subst (λ (index : Kept). AreRising index.numbers → IsStrictlyIncreasing found.now) c.deref.ensures rise in
    ∥∥₁_elim c.args.self.now.indexed (hlevel props) (λ indexed. rises indexed.rising))
