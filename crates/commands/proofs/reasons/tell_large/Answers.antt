use Rattle.std.proofs.Common.{IfSome, codes, inr, refl, subst}
use Rattle.commands.specs.Reasons.{IsNamedBy, line_on}
use Rattle.commands.specs.Unread.{IsTooLarge}
use Rattle.commands.proofs.reasons.tell_large.Goals as goal

pub returns-in-Some : goal.returns-in-Some
returns-in-Some g c =
    let name = c.in-Some.name.now in
    let large = subst (λ o. IfSome o (λ n. IsTooLarge (g.F.Files.has c.args.files.now n.now))) c.in-Some.is c.first_large.ensures.large in
    let is = subst (λ o. IfSome o (λ n. IsNamedBy c.args.subject n.now)) c.in-Some.is c.first_large.ensures.named in
    inr (line_on name (codes "it has more than 16777216 bytes"), record { name = name; is = is; large = large; line = refl }, c.say_line.ensures)
