use Rattle.std.proofs.Common.{inr}
use Rattle.plans.specs.Plans.{composition}
use Rattle.task_seed.specs.Any.{any_turn}
use Rattle.task_seed.specs.Setups.{plan_of, system}
use Rattle.commands.specs.FileReports.{FilesMeanNone, HasNoSystem, table_of}
use Rattle.commands.specs.Setups.{IsSetup}
use Rattle.commands.specs.Simulations.{Means}
use Rattle.commands.proofs.FileReports.{turns_otherwise}
use Rattle.commands.proofs.SetupReports.{err_otherwise, ok_otherwise, setup_means}
use Rattle.commands.proofs.reading.setup_in.Goals as goal

pub returns-in-Ok-clause-ok : goal.returns-in-Ok-clause-ok
returns-in-Ok-clause-ok g c =
    let has = g.F.Files.has c.args.files.now in
    let lacks = g.F.Files.lacks c.args.files.now in
    let options = c.args.options in
    let plan = c.in-Ok.plan in
    let s = c.in-Ok.ensures.ok in
    ok_otherwise _ _ (λ setup asked. record {
      source = s.source;
      is = s.is;
      judged = turns_otherwise has lacks options (λ given. IsSetup plan given options.ticks setup) (λ given. Means s.source given options.ticks (plan_of setup) (system any_turn setup))
          (λ given is. setup_means plan given options.ticks setup s.source s.judged is) (table_of options) asked;
    }) c.setup_asked.result c.setup_asked.ensures.ok

pub returns-in-Ok-clause-err : goal.returns-in-Ok-clause-err
returns-in-Ok-clause-err g c =
    let has = g.F.Files.has c.args.files.now in
    let lacks = g.F.Files.lacks c.args.files.now in
    let options = c.args.options in
    let plan = c.in-Ok.plan in
    let s = c.in-Ok.ensures.ok in
    err_otherwise (HasNoSystem has lacks (composition plan) options (table_of options)) (FilesMeanNone has lacks c.args.name.now options)
    (λ report none. inr (record { source = s.source; is = s.is; judged = record { plan = plan; composed = s.judged; holds = none } })) c.setup_asked.result c.setup_asked.ensures.err
