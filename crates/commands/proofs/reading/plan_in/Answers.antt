use Rattle.std.proofs.Common.{subst}
use Rattle.std.specs.Prelude.{IfErr, IfOk}
use Rattle.compose.specs.Composed.{IsComposed}
use Rattle.commands.specs.Compositions.{GivesNoPlan}
use Rattle.commands.proofs.Reporting.{plan_found, plan_lacking}
use Rattle.commands.proofs.SetupReports.{err_otherwise, ok_otherwise}
use Rattle.commands.proofs.reading.plan_in.Goals as goal

pub returns-clause-ok : goal.returns-clause-ok
returns-clause-ok g c =
    let has = g.F.Files.has c.args.files.now c.args.name.now in
    let read = c.in-Ok.source.items in
    ok_otherwise _ _ (λ plan composed. plan_found has read c.in-Ok.ensures.ok plan c.front_law.ensures.composed composed) c.plan_of.result
    (subst (λ l. IfOk c.plan_of.result (IsComposed l)) c.as_slice.ensures.value c.plan_of.ensures.ok)

pub returns-clause-err : goal.returns-clause-err
returns-clause-err g c =
    let has = g.F.Files.has c.args.files.now c.args.name.now in
    let lacks = g.F.Files.lacks c.args.files.now c.args.name.now in
    let read = c.in-Ok.source.items in
    err_otherwise _ _ (plan_lacking has read c.in-Ok.ensures.ok lacks c.front_law.ensures.refused) c.plan_of.result
    (subst (λ l. IfErr c.plan_of.result (GivesNoPlan l)) c.as_slice.ensures.value c.plan_of.ensures.err)
