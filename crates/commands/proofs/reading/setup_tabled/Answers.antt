use Rattle.std.proofs.Common.{inr, subst}
use Rattle.std.specs.Prelude.{IfErr, IfOk}
use Rattle.plans.specs.Plans.{composition}
use Rattle.commands.specs.Setups.{GivesNoSystem, IsSetup, Table}
use Rattle.commands.proofs.SetupReports.{err_otherwise, ok_otherwise}
use Rattle.commands.proofs.reading.setup_tabled.Goals as goal

pub returns-clause-ok : goal.returns-clause-ok
returns-clause-ok g c =
    let f = c.in-Ok.ensures.ok in
    ok_otherwise _ _ (λ setup is. record { bytes = c.in-Ok.table.items; is = f.0; small = f.1; judged = is }) c.setup_with.result
    (subst (λ l. IfOk c.setup_with.result (IsSetup c.args.plan (Table l) c.args.ticks)) c.as_slice.ensures.value c.setup_with.ensures.ok)

pub returns-clause-err : goal.returns-clause-err
returns-clause-err g c =
    let f = c.in-Ok.ensures.ok in
    err_otherwise _ _ (λ report none. inr (record { bytes = c.in-Ok.table.items; is = f.0; small = f.1; judged = none })) c.setup_with.result
    (subst (λ l. IfErr c.setup_with.result (GivesNoSystem (composition c.args.plan) (Table l) c.args.ticks)) c.as_slice.ensures.value c.setup_with.ensures.err)
