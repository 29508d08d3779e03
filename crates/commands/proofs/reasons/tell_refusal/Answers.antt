use Rattle.std.proofs.Common.{Global, List, Vec, inr, length, ◌<◌, ℕ}
use Rattle.std.specs.Prelude.{Option, option_map}
use Rattle.commands.specs.Reasons.{IsRefusalReason, IsToldOr}
use Rattle.commands.proofs.Why.{says_more, told_reason}
use Rattle.commands.proofs.reasons.tell_refusal.Goals as goal

pub returns-in-Ok : goal.returns-in-Ok
returns-in-Ok g c =
    let has = g.F.Files.has c.args.files.now in
    let lacks = g.F.Files.lacks c.args.files.now in
    let items : Option (Vec ℕ Global) → Option (List ℕ) = option_map {T = Vec ℕ Global} {U = List ℕ} (λ v. v.items) in
    says_more g.E.Write.contents c.args.err.now c.tell_told.new.err (IsToldOr (items c.in-Ok.told)) (IsRefusalReason has lacks c.args.subject)
    (told_reason has lacks c.args.subject (items c.in-Ok.told) c.in-Ok.ensures.ok) c.tell_told.ensures

pub returns-in-Err : goal.returns-in-Err
returns-in-Err g c =
    let has = g.F.Files.has c.args.files.now in
    let lacks = g.F.Files.lacks c.args.files.now in
    says_more g.E.Write.contents c.args.err.now c.tell_number.new.err (λ text. 0 < length text) (IsRefusalReason has lacks c.args.subject)
    (λ text some. inr (inr (_, c.in-Err.ensures.err), some)) c.tell_number.ensures
