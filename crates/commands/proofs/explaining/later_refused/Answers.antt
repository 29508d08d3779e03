use Rattle.std.proofs.Common.{Global, List, ℕ, Vec, inl, inr, subst}
use Rattle.std.specs.Prelude.{Option, option_map}
use Rattle.commands.specs.Explained.{AreActions, AreBadActions, AreBadSteps, AreSteps, IsJudged, named}
use Rattle.commands.specs.FileReports.{LacksTable}
use Rattle.commands.proofs.SetupReports.{err_otherwise, ok_otherwise}
use Rattle.commands.proofs.Tellings.{actions_told}
use Rattle.commands.proofs.explaining.later_refused.Goals as goal

pub returns-in-Ok-None-clause-ok : goal.returns-in-Ok-None-clause-ok
returns-in-Ok-None-clause-ok g c =
    let has = g.F.Files.has c.args.files.now in
    let s = c.args.subject in
    let plan = c.args.plan.now in
    let items : Option (Vec ℕ Global) → Option (List ℕ) = option_map {T = Vec ℕ Global} {U = List ℕ} (λ v. v.items) in
    let good = subst (λ o. IsJudged has (AreSteps plan) (AreBadSteps plan) (named s.steps) (items o)) c.in-Ok-None.field-0-is c.in-Ok-None.ensures.ok in
    ok_otherwise (λ told. IsJudged has (AreActions plan) (AreBadActions plan) (named s.actions) (items told)) _ (λ told is. actions_told has plan (named s.table) (named s.steps) (named s.actions) good (items told) is) c.actions_refused.result c.actions_refused.ensures.ok

pub returns-in-Ok-None-clause-err : goal.returns-in-Ok-None-clause-err
returns-in-Ok-None-clause-err g c =
    let has = g.F.Files.has c.args.files.now in
    let lacks = g.F.Files.lacks c.args.files.now in
    let s = c.args.subject in
    err_otherwise (λ number. LacksTable has lacks (named s.actions) number) _ (λ number lacking. inr lacking) c.actions_refused.result c.actions_refused.ensures.err

pub returns-in-Ok-Some-clause-ok : goal.returns-in-Ok-Some-clause-ok
returns-in-Ok-Some-clause-ok g c =
    let has = g.F.Files.has c.args.files.now in
    let s = c.args.subject in
    let plan = c.args.plan.now in
    let items : Option (Vec ℕ Global) → Option (List ℕ) = option_map {T = Vec ℕ Global} {U = List ℕ} (λ v. v.items) in
    inl (subst (λ o. IsJudged has (AreSteps plan) (AreBadSteps plan) (named s.steps) (items o)) c.in-Ok-Some.field-0-is c.in-Ok-Some.ensures.ok)
