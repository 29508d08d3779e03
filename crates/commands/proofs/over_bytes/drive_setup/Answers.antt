use Rattle.std.proofs.Common.{◌≡◌, ℕ, List, subst, sym}
use Rattle.task_seed.specs.Setups.{plan_of, system}
use Rattle.trace.specs.Went.{IsStopped, IsWritten}
use Rattle.commands.specs.Drives.{IsStepsReport}
use Rattle.commands.proofs.DriveReports.{given_here, steps_undriven}
use Rattle.commands.proofs.over_bytes.drive_setup.Goals as goal

pub returns : goal.returns
returns g c =
    let known = g.W.Write.contents in
    let old = c.args.out.now in
    let new = c.drive.new.out in
    let plan = plan_of c.args.setup in
    let turns = system g.T.Turns.turn_of c.args.setup in
    let bytes = c.args.bytes.now in
    let kept : Type 0 = new ≡ old in
    let wrote : List ℕ → Type 0 = IsWritten known old new in
    let cut : List ℕ → ℕ → Type 0 = IsStopped known old new in
    let given = given_here plan turns c.args.form bytes kept wrote cut c.plan.result.now c.plan.ensures c.in-Ok.steps.items c.as_slice.result.now c.as_slice.ensures.value c.in-Ok.ensures.ok in
    subst (IsStepsReport plan turns c.args.form bytes kept wrote cut) (sym c.report_of-in-Err-drive.ensures)
    (steps_undriven plan turns c.args.form bytes kept wrote cut known old new c.as_slice.result.now given c.in-Err-drive.fault c.in-Err-drive.ensures.undriven)
