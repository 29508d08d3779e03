use Rattle.std.proofs.Common.{ap, sym, subst}
use Rattle.std.specs.Prelude.{Err}
use Rattle.plans.specs.Plans.{composition}
use Rattle.commands.specs.Parts.{IsMemory, IsRefusal}
use Rattle.commands.specs.Tables.{IsRefused}
use Rattle.commands.proofs.SetupReports.{rows_are, rows_refused, table_refused}
use Rattle.commands.proofs.setups.tabled.Goals as goal

pub returns-in-Ok-new-clause-ok : goal.returns-in-Ok-new-clause-ok
returns-in-Ok-new-clause-ok c =
    rows_are (composition c.args.plan.now) c.args.table.now c.in-Ok.rows.items (record { spelling = c.in-Ok.ensures.ok; in_range = c.in-Ok.ensures.in_range }) c.as_slice.result.now c.as_slice.ensures.value c.in-Ok-new.turns c.in-Ok-new.ensures.turns c.in-Ok-new.ensures.sound

pub returns-in-Err-clause-err : goal.returns-in-Err-clause-err
returns-in-Err-clause-err c =
    subst (IsRefusal (IsRefused (composition c.args.plan.now) c.args.table.now) IsMemory) (sym c.report_of.ensures)
    (table_refused (composition c.args.plan.now) c.args.table.now c.in-Err.refused (λ line same. c.in-Err.ensures.refused line (ap (λ e. Err e) same)))

pub returns-clause-err : goal.returns-clause-err
returns-clause-err c =
    subst (IsRefusal (IsRefused (composition c.args.plan.now) c.args.table.now) IsMemory) (sym c.report_of-in-Err-new.ensures)
    (rows_refused (composition c.args.plan.now) c.args.table.now c.in-Ok.rows.items (record { spelling = c.in-Ok.ensures.ok; in_range = c.in-Ok.ensures.in_range }) c.as_slice.result.now c.as_slice.ensures.value c.in-Err-new.refused c.in-Err-new.ensures.refused)
