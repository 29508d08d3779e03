use Rattle.std.proofs.Common.{inr}
use Rattle.plans.specs.Plans.{composition}
use Rattle.task_seed.specs.Any.{any_turn}
use Rattle.task_seed.specs.Setups.{plan_of, system}
use Rattle.commands.specs.Drawing.{SourceMeansNone}
use Rattle.commands.specs.FileReports.{HasNoSystem, table_of}
use Rattle.commands.specs.Setups.{IsSetup}
use Rattle.commands.specs.Simulations.{Means}
use Rattle.commands.proofs.FileReports.{turns_otherwise}
use Rattle.commands.proofs.SetupReports.{err_otherwise, ok_otherwise, setup_means}
use Rattle.commands.proofs.diagrams.setup_for.Goals as goal

pub returns-in-Ok-clause-ok : goal.returns-in-Ok-clause-ok
returns-in-Ok-clause-ok g c =
    let has = g.F.Files.has c.args.files.now in
    let lacks = g.F.Files.lacks c.args.files.now in
    let options = c.args.options in
    let source = c.args.source.now in
    let plan = c.in-Ok.plan in
    ok_otherwise _ _ (λ setup asked. turns_otherwise has lacks options (λ given. IsSetup plan given options.ticks setup) (λ given. Means source given options.ticks (plan_of setup) (system any_turn setup))
    (λ given is. setup_means plan given options.ticks setup source c.in-Ok.ensures.ok is) (table_of options) asked) c.setup_asked.result c.setup_asked.ensures.ok

pub returns-in-Ok-clause-err : goal.returns-in-Ok-clause-err
returns-in-Ok-clause-err g c =
    let has = g.F.Files.has c.args.files.now in
    let lacks = g.F.Files.lacks c.args.files.now in
    let options = c.args.options in
    let plan = c.in-Ok.plan in
    err_otherwise (HasNoSystem has lacks (composition plan) options (table_of options)) (SourceMeansNone has lacks c.args.source.now options)
    (λ report none. inr (record { plan = plan; composed = c.in-Ok.ensures.ok; holds = none })) c.setup_asked.result c.setup_asked.ensures.err
