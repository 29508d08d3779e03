use Rattle.std.proofs.Common.{◌≡◌, ℕ, List, subst, sym}
use Rattle.trace.specs.Went.{IsStopped, IsWritten}
use Rattle.commands.specs.Checks.{IsActionsReport}
use Rattle.commands.proofs.Checked.{unjudged_reported, verdict_reported}
use Rattle.commands.proofs.over_bytes.check_plan.Goals as goal

pub returns-in-Ok : goal.returns-in-Ok
returns-in-Ok g c =
    let old = c.args.out.now in
    let new = c.check_trace.new.out in
    let kept : Type 0 = new ≡ old in
    let wrote : List ℕ → Type 0 = IsWritten g.W.Write.contents old new in
    let cut : List ℕ → ℕ → Type 0 = IsStopped g.W.Write.contents old new in
    let plan = c.args.plan.now in
    let bytes = c.args.actions.now in
    subst (IsActionsReport plan bytes kept wrote cut) (sym c.verdict_report.ensures) (verdict_reported plan bytes kept wrote cut c.in-Ok.verdict c.in-Ok.ensures.judged)

pub returns-in-Err : goal.returns-in-Err
returns-in-Err g c =
    let old = c.args.out.now in
    let new = c.check_trace.new.out in
    let kept : Type 0 = new ≡ old in
    let wrote : List ℕ → Type 0 = IsWritten g.W.Write.contents old new in
    let cut : List ℕ → ℕ → Type 0 = IsStopped g.W.Write.contents old new in
    let plan = c.args.plan.now in
    let bytes = c.args.actions.now in
    subst (IsActionsReport plan bytes kept wrote cut) (sym c.report_of.ensures) (unjudged_reported plan bytes kept wrote cut c.in-Err.fault c.in-Err.ensures.unjudged)
