use Rattle.std.proofs.Common.{subst}
use Rattle.std.proofs.lemmas.Result.{IfErr-weaker, IfOk-weaker}
use Rattle.std.specs.Arc.{arc_value}
use Rattle.task_seed.specs.declared.setup.Setup.{Setup}
use Rattle.task_seed.specs.Setups.{plan_of, system}
use Rattle.schedules.specs.Schedules.{HasSchedulesBelow}
use Rattle.trace.specs.Given.{stops}
use Rattle.trace.specs.GivenHead.{stopped_behind, written_behind}
use Rattle.trace.specs.Headed.{Behind, headed}
use Rattle.trace.specs.Puts.{Stops}
use Rattle.trace.specs.Went.{IsWritten}
use Rattle.workers.proofs.Fronted.{unfinished_otherwise, whole_otherwise}
use Rattle.workers.proofs.Written.{of_any}
use Rattle.workers.proofs.running.run_with_stats.Goals as goal

pub run_on-requires-clause-known : goal.run_on-requires-clause-known
run_on-requires-clause-known g c κs within = subst (λ (p : Setup g.row.T.Denot). HasSchedulesBelow (plan_of p) (system g.T.Turns.turn_of p)) c.deref.ensures c.turns_are_schedule.ensures.below

pub returns-in-Ok-clause-whole : goal.returns-in-Ok-clause-whole
returns-in-Ok-clause-whole g c =
    let known = g.W.Write.contents in
    let own = arc_value c.args.setup in
    let head = c.args.job.form.head in
    let mid = c.write_front.new.out in
    let new = c.run_on.new.out in
    IfOk-weaker c.run_on.result _ _
    (λ stats. whole_otherwise (plan_of own) (system g.T.Turns.turn_of own) c.args.job.form.lines (IsWritten known mid new) (Behind head (IsWritten known c.args.out.now new)) (written_behind head c.in-Ok.ensures.ok new) stats.turns) c.run_on.ensures.whole

pub returns-in-Ok-clause-unfinished : goal.returns-in-Ok-clause-unfinished
returns-in-Ok-clause-unfinished g c =
    let known = g.W.Write.contents in
    let own = arc_value c.args.setup in
    let head = c.args.job.form.head in
    let mid = c.write_front.new.out in
    let new = c.run_on.new.out in
    let front = c.in-Ok.ensures.ok in
    IfErr-weaker c.run_on.result _ _
    (unfinished_otherwise (plan_of own) (system g.T.Turns.turn_of own) c.args.job.form.lines (IsWritten known mid new) (Behind head (IsWritten known c.args.out.now new)) (written_behind head front new) (Stops known mid new c.in-Ok.before)
    (λ text. Stops known c.args.out.now new 0 (headed head text)) (stopped_behind head front new)) c.run_on.ensures.unfinished

pub returns-clause-unfinished : goal.returns-clause-unfinished
returns-clause-unfinished g c =
    let own = arc_value c.args.setup in
    of_any (plan_of own) (system g.T.Turns.turn_of own) c.args.job.form.lines (subst (λ (p : Setup g.row.T.Denot). HasSchedulesBelow (plan_of p) (system g.T.Turns.turn_of p)) c.deref.ensures c.turns_are_schedule.ensures.below)
    (λ text. Stops g.W.Write.contents c.args.out.now c.write_front.new.out 0 (headed c.args.job.form.head text) c.in-Err.fault) (λ text. stops text c.in-Err.ensures.err)
