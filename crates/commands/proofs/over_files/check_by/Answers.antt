use Rattle.std.proofs.Common.{◌≡◌, ℕ, List, inl, inr, refl, subst}
use Rattle.trace.specs.Went.{IsStopped, IsWritten}
use Rattle.commands.specs.Checks.{IsActionsReport}
use Rattle.commands.proofs.over_files.check_by.Goals as goal

pub returns-in-Ok : goal.returns-in-Ok
returns-in-Ok g c =
    let old = c.args.out.now in
    let new = c.check_plan.new.out in
    let kept : Type 0 = new ≡ old in
    let wrote : List ℕ → Type 0 = IsWritten g.W.Write.contents old new in
    let cut : List ℕ → ℕ → Type 0 = IsStopped g.W.Write.contents old new in
    let f = c.in-Ok.ensures.ok in
    inr (record { bytes = c.in-Ok.actions.items; is = f.0; small = f.1; judged = subst (λ l. IsActionsReport c.args.plan.now l kept wrote cut c.check_plan.result) c.as_slice.ensures.value c.check_plan.ensures })

pub returns-in-Err : goal.returns-in-Err
returns-in-Err g c = inl (c.in-Err.ensures.err, refl)
