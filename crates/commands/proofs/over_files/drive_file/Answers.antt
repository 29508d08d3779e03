use Rattle.std.proofs.Common.{◌≡◌, ℕ, List, inl, inr, refl, subst}
use Rattle.task_seed.specs.Any.{any_turn}
use Rattle.task_seed.specs.Setups.{plan_of, system}
use Rattle.trace.specs.declared.texts.Form.{Form}
use Rattle.trace.specs.Went.{IsStopped, IsWritten}
use Rattle.commands.specs.Drives.{IsStepsReport}
use Rattle.commands.specs.FileReports.{IsSmallReport}
use Rattle.commands.proofs.over_files.drive_file.Goals as goal

pub returns-in-Ok : goal.returns-in-Ok
returns-in-Ok g c =
    let old = c.args.out.now in
    let new = c.drive_by.new.out in
    let kept : Type 0 = new ≡ old in
    let wrote : List ℕ → Type 0 = IsWritten g.W.Write.contents old new in
    let cut : List ℕ → ℕ → Type 0 = IsStopped g.W.Write.contents old new in
    let setup = c.in-Ok.setup in
    let ends : Form → Type 0 = λ form.
    let has = g.F.Files.has c.args.files.now c.args.steps.now in
    let lacks = g.F.Files.lacks c.args.files.now c.args.steps.now in
    IsSmallReport has lacks kept (λ bytes. IsStepsReport (plan_of setup) (system any_turn setup) form bytes kept wrote cut) c.drive_by.result in
    inr (record { plan = plan_of setup; system = system any_turn setup; meant = c.in-Ok.ensures.ok; holds = subst ends c.form_for.ensures c.drive_by.ensures })

pub returns-in-Err : goal.returns-in-Err
returns-in-Err g c = inl (c.in-Err.ensures.err, refl)
