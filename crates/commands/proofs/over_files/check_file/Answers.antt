use Rattle.std.proofs.Common.{inl, inr, refl}
use Rattle.commands.proofs.over_files.check_file.Goals as goal

pub returns-in-Ok : goal.returns-in-Ok
returns-in-Ok g c =
    let s = c.in-Ok.ensures.ok in
    inr (record { source = s.source; is = s.is; judged = record { plan = c.in-Ok.plan; composed = s.judged; holds = c.check_by.ensures } })

pub returns-in-Err : goal.returns-in-Err
returns-in-Err g c = inl (c.in-Err.ensures.err, refl)
