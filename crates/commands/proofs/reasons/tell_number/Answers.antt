use Rattle.std.proofs.Common.{IfSome, inr, length, subst, ◌<◌}
use Rattle.commands.specs.Written.{IsSaid}
use Rattle.commands.proofs.reasons.tell_number.Goals as goal

pub returns-in-Some : goal.returns-in-Some
returns-in-Some g c =
    inr (c.in-Some.text.now, subst (λ o. IfSome o (λ text. 0 < length text.now)) c.in-Some.is c.story_of.ensures, subst (IsSaid g.E.Write.contents c.args.err.now c.say.new.out) c.as_bytes.ensures.value c.say.ensures)
