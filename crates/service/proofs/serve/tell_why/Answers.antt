use Rattle.std.proofs.Common.{inr, subst, sym, ◌∙◌}
use Rattle.commands.specs.Reasons.{IsReason, SaysAny}
use Rattle.service.proofs.serve.tell_why.Goals as goal

pub returns-in-Ok : goal.returns-in-Ok
returns-in-Ok g c =
    let cause = c.in-Some.cause in
    let said = subst (λ subject. SaysAny g.E.Write.contents c.args.err.now c.tell_reason.new.err (IsReason (g.F.Files.has c.args.files.now) (g.F.Files.lacks c.args.files.now) subject cause)) c.subject_of.ensures c.tell_reason.ensures in
    inr (record { cause = cause; of = sym c.of.ensures ∙ c.in-Some.is; what = c.in-Ok.asked; is = c.in-Ok.ensures; said = said })
