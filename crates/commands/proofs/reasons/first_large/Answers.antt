use Rattle.std.proofs.Common.{IfSome, Some, inl, inr, subst, ◌≡◌}
use Rattle.commands.specs.Explained.{named}
use Rattle.commands.specs.Reasons.{IsNamedBy}
use Rattle.commands.proofs.Why.{if_some}
use Rattle.commands.proofs.reasons.first_large.Goals as goal

pub returns-in-Some-clause-named : goal.returns-in-Some-clause-named
returns-in-Some-clause-named g c =
    inr (inl (subst (λ o. IfSome o (λ n. named c.args.subject.table ≡ Some n.now)) c.in-Some.is c.large_at.ensures.named))

pub returns-in-Some-large_at-clause-named : goal.returns-in-Some-large_at-clause-named
returns-in-Some-large_at-clause-named g c =
    inr (inr (inl (subst (λ o. IfSome o (λ n. named c.args.subject.steps ≡ Some n.now)) c.in-Some-large_at.is c.large_at-2.ensures.named)))

pub returns-clause-named : goal.returns-clause-named
returns-clause-named g c =
    if_some (λ n. named c.args.subject.actions ≡ Some n.now) (λ n. IsNamedBy c.args.subject n.now) (λ n is. inr (inr (inr is))) c.large_at-3.result c.large_at-3.ensures.named
