use Rattle.std.proofs.Common.{◌≡◌, ℕ, List, subst, sym}
use Rattle.task_seed.specs.Any.{any_turn}
use Rattle.task_seed.specs.Setups.{plan_of, system}
use Rattle.trace.specs.Headed.{Behind, headed}
use Rattle.trace.specs.Puts.{Stops}
use Rattle.trace.specs.Went.{IsStopped, IsWritten}
use Rattle.workers.specs.Runs.{IsUnfinished, IsWhole}
use Rattle.service.specs.Crews.{IsCrewReport}
use Rattle.service.proofs.CrewReports.{done_reported, unfinished_reported}
use Rattle.service.proofs.running.run_setup.Goals as goal

pub returns-in-Err-run_with_stats : goal.returns-in-Err-run_with_stats
returns-in-Err-run_with_stats g c =
    let known = g.W.Write.contents in
    let old = c.args.out.now in
    let new = c.run_with_stats.new.out in
    let plan = plan_of c.args.setup in
    let turns = system any_turn c.args.setup in
    let kept : Type 0 = new ≡ old in
    let wrote : List ℕ → Type 0 = IsWritten known old new in
    let left =
    subst (λ s. IsUnfinished (plan_of s) (system any_turn s) c.args.manner.form.lines (Behind c.args.manner.form.head wrote) (λ text. Stops known old new 0 (headed c.args.manner.form.head text)) c.in-Err-run_with_stats.fault) c.in-Ok.ensures.ok
    c.in-Err-run_with_stats.ensures.unfinished in
    subst (IsCrewReport plan turns c.args.manner.form c.args.manner.crew.stats kept wrote (IsStopped known old new)) (sym c.report_of.ensures)
    (unfinished_reported known old new plan turns c.args.manner.form c.args.manner.crew.stats kept c.in-Err-run_with_stats.fault left)

pub returns-in-Ok-run_with_stats : goal.returns-in-Ok-run_with_stats
returns-in-Ok-run_with_stats g c =
    let known = g.W.Write.contents in
    let old = c.args.out.now in
    let new = c.run_with_stats.new.out in
    let plan = plan_of c.args.setup in
    let turns = system any_turn c.args.setup in
    let kept : Type 0 = new ≡ old in
    let wrote : List ℕ → Type 0 = IsWritten known old new in
    let counts = c.in-Ok-run_with_stats.counts in
    let whole = subst (λ s. IsWhole (plan_of s) (system any_turn s) c.args.manner.form.lines (Behind c.args.manner.form.head wrote) counts.turns) c.in-Ok.ensures.ok c.in-Ok-run_with_stats.ensures.whole in
    subst (IsCrewReport plan turns c.args.manner.form c.args.manner.crew.stats kept wrote (IsStopped known old new)) (sym c.done.ensures)
    (done_reported known old new plan turns c.args.manner.form c.args.manner.crew.stats kept counts whole)
