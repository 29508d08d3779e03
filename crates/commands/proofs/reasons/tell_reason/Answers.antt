use Rattle.std.proofs.Common.{subst, sym}
use Rattle.commands.specs.Reasons.{IsReason, SaysAny}
use Rattle.commands.proofs.reasons.tell_reason.Goals as goal

pub returns-in-Refusal : goal.returns-in-Refusal
returns-in-Refusal g c =
    subst (λ cause. SaysAny g.E.Write.contents c.args.err.now c.tell_refusal.new.err (IsReason (g.F.Files.has c.args.files.now) (g.F.Files.lacks c.args.files.now) c.args.subject cause)) (sym c.in-Refusal.is) c.tell_refusal.ensures

pub returns-in-Unread : goal.returns-in-Unread
returns-in-Unread g c =
    subst (λ cause. SaysAny g.E.Write.contents c.args.err.now c.tell_unread.new.err (IsReason (g.F.Files.has c.args.files.now) (g.F.Files.lacks c.args.files.now) c.args.subject cause)) (sym c.in-Unread.is) c.tell_unread.ensures

pub returns-in-Large : goal.returns-in-Large
returns-in-Large g c =
    subst (λ cause. SaysAny g.E.Write.contents c.args.err.now c.tell_large.new.err (IsReason (g.F.Files.has c.args.files.now) (g.F.Files.lacks c.args.files.now) c.args.subject cause)) (sym c.in-Large.is) c.tell_large.ensures
