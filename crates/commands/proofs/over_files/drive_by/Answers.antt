use Rattle.std.proofs.Common.{◌≡◌, ℕ, List, inl, inr, refl, subst}
use Rattle.task_seed.specs.Any.{any_turn}
use Rattle.task_seed.specs.Setups.{plan_of, system}
use Rattle.trace.specs.Went.{IsStopped, IsWritten}
use Rattle.commands.specs.Drives.{IsStepsReport}
use Rattle.commands.proofs.over_files.drive_by.Goals as goal

pub returns-in-Ok : goal.returns-in-Ok
returns-in-Ok g c =
    let old = c.args.out.now in
    let new = c.drive_setup.new.out in
    let kept : Type 0 = new ≡ old in
    let wrote : List ℕ → Type 0 = IsWritten g.W.Write.contents old new in
    let cut : List ℕ → ℕ → Type 0 = IsStopped g.W.Write.contents old new in
    let f = c.in-Ok.ensures.ok in
    inr (record { bytes = c.in-Ok.steps.items; is = f.0; small = f.1; judged = subst (λ l. IsStepsReport (plan_of c.args.setup) (system any_turn c.args.setup) c.args.form l kept wrote cut c.drive_setup.result) c.as_slice.ensures.value c.drive_setup.ensures })

pub returns-in-Err : goal.returns-in-Err
returns-in-Err g c = inl (c.in-Err.ensures.err, refl)
