use Rattle.std.proofs.Common.{Global, List, ℕ, Vec, ap, sym, subst}
use Rattle.std.specs.Prelude.{IfErr, IfOk, None, Option, option_map}
use Rattle.commands.specs.Explained.{AreActions, AreBadActions, IsJudged}
use Rattle.commands.specs.FileReports.{LacksTable}
use Rattle.commands.proofs.explaining.actions_refused.Goals as goal

pub returns-in-Some-clause-ok : goal.returns-in-Some-clause-ok
returns-in-Some-clause-ok g c =
    let has = g.F.Files.has c.args.files.now in
    let plan = c.args.plan.now in
    let items : Option (Vec ℕ Global) → Option (List ℕ) = option_map {T = Vec ℕ Global} {U = List ℕ} (λ v. v.items) in
    let given = ap (option_map (λ s. s.now)) c.in-Some.is in
    subst (λ t. IfOk c.named_actions_refused.result (λ told. IsJudged has (AreActions plan) (AreBadActions plan) t (items told))) (sym given) c.named_actions_refused.ensures.ok

pub returns-in-Some-clause-err : goal.returns-in-Some-clause-err
returns-in-Some-clause-err g c =
    let has = g.F.Files.has c.args.files.now in
    let lacks = g.F.Files.lacks c.args.files.now in
    let given = ap (option_map (λ s. s.now)) c.in-Some.is in
    subst (λ t. IfErr c.named_actions_refused.result (LacksTable has lacks t)) (sym given) c.named_actions_refused.ensures.err

pub returns-in-None-clause-ok : goal.returns-in-None-clause-ok
returns-in-None-clause-ok g c =
    let has = g.F.Files.has c.args.files.now in
    let plan = c.args.plan.now in
    let given = ap (option_map (λ s. s.now)) c.in-None.is in
    subst (λ t. IsJudged has (AreActions plan) (AreBadActions plan) t None) (sym given) tt
