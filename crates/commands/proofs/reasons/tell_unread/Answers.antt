use Rattle.std.proofs.Common.{IfSome, inr, refl, subst}
use Rattle.commands.specs.Reasons.{IsNamedBy, line_on, reason_of}
use Rattle.commands.specs.Written.{IsSaid}
use Rattle.commands.proofs.reasons.tell_unread.Goals as goal

pub returns-in-Some : goal.returns-in-Some
returns-in-Some g c =
    let unread = c.in-Some.unread in
    let lacking = subst (λ o. IfSome o (λ u. g.F.Files.lacks c.args.files.now u.name.now)) c.in-Some.is c.first_unread.ensures.lacking in
    let is = subst (λ o. IfSome o (λ u. IsNamedBy c.args.subject u.name.now)) c.in-Some.is c.first_unread.ensures.named in
    inr (
      line_on unread.name.now (reason_of unread.fault),
      record { name = unread.name.now; is = is; lacking = lacking; fault = unread.fault; line = refl },
      subst (λ reason. IsSaid g.E.Write.contents c.args.err.now c.say_line.new.err (line_on unread.name.now reason)) c.reason.ensures c.say_line.ensures,
    )
