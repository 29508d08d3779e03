use Rattle.std.proofs.Common.{IfSome, Some, inl, inr, subst, ◌≡◌}
use Rattle.commands.specs.Explained.{named}
use Rattle.commands.specs.Reasons.{IsNamedBy}
use Rattle.commands.proofs.Why.{if_some, own_name}
use Rattle.commands.proofs.reasons.first_unread.Goals as goal

pub returns-in-Some-clause-named : goal.returns-in-Some-clause-named
returns-in-Some-clause-named g c =
    let s = c.args.subject in
    inl (own_name s.source c.in-Some.unread.name.now (subst (λ o. IfSome o (λ u. named (Some s.source) ≡ Some u.name.now)) c.in-Some.is c.unread_at.ensures.named))

pub returns-in-Some-unread_at-clause-named : goal.returns-in-Some-unread_at-clause-named
returns-in-Some-unread_at-clause-named g c =
    inr (inl (subst (λ o. IfSome o (λ u. named c.args.subject.table ≡ Some u.name.now)) c.in-Some-unread_at.is c.unread_at-2.ensures.named))

pub returns-in-Some-unread_at-2-clause-named : goal.returns-in-Some-unread_at-2-clause-named
returns-in-Some-unread_at-2-clause-named g c =
    inr (inr (inl (subst (λ o. IfSome o (λ u. named c.args.subject.steps ≡ Some u.name.now)) c.in-Some-unread_at-2.is c.unread_at-3.ensures.named)))

pub returns-clause-named : goal.returns-clause-named
returns-clause-named g c =
    if_some (λ u. named c.args.subject.actions ≡ Some u.name.now) (λ u. IsNamedBy c.args.subject u.name.now) (λ u is. inr (inr (inr is))) c.unread_at-4.result c.unread_at-4.ensures.named
