use Rattle.std.proofs.Common.{ap, inr, sym, subst}
use Rattle.std.specs.Prelude.{IfErr, IfOk, option_map}
use Rattle.plans.specs.Plans.{composition}
use Rattle.commands.specs.FileReports.{HasNoSystem, HasTurns}
use Rattle.commands.specs.Setups.{IsSetup}
use Rattle.commands.proofs.SetupReports.{err_otherwise}
use Rattle.commands.proofs.reading.setup_asked.Goals as goal

pub returns-in-Some-clause-ok : goal.returns-in-Some-clause-ok
returns-in-Some-clause-ok g c =
    let has = g.F.Files.has c.args.files.now in
    let asked = ap (option_map (λ s. s.now)) c.in-Some.is in
    subst (λ t. IfOk c.setup_tabled.result (λ setup. HasTurns has c.args.options t (λ given. IsSetup c.args.plan given c.args.options.ticks setup))) (sym asked) c.setup_tabled.ensures.ok

pub returns-in-Some-clause-err : goal.returns-in-Some-clause-err
returns-in-Some-clause-err g c =
    let has = g.F.Files.has c.args.files.now in
    let lacks = g.F.Files.lacks c.args.files.now in
    let asked = ap (option_map (λ s. s.now)) c.in-Some.is in
    subst (λ t. IfErr c.setup_tabled.result (HasNoSystem has lacks (composition c.args.plan) c.args.options t)) (sym asked) c.setup_tabled.ensures.err

pub returns-in-None-clause-ok : goal.returns-in-None-clause-ok
returns-in-None-clause-ok g c =
    let has = g.F.Files.has c.args.files.now in
    let asked = ap (option_map (λ s. s.now)) c.in-None.is in
    subst (λ t. IfOk c.setup_with.result (λ setup. HasTurns has c.args.options t (λ given. IsSetup c.args.plan given c.args.options.ticks setup))) (sym asked) c.setup_with.ensures.ok

pub returns-in-None-clause-err : goal.returns-in-None-clause-err
returns-in-None-clause-err g c =
    let has = g.F.Files.has c.args.files.now in
    let lacks = g.F.Files.lacks c.args.files.now in
    let asked = ap (option_map (λ s. s.now)) c.in-None.is in
    subst (λ t. IfErr c.setup_with.result (HasNoSystem has lacks (composition c.args.plan) c.args.options t)) (sym asked) (err_otherwise _ _ (λ report none. inr none) c.setup_with.result c.setup_with.ensures.err)
