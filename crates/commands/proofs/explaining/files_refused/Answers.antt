use Rattle.std.proofs.Common.{Global, List, ℕ, Vec, inl, inr, subst}
use Rattle.std.specs.Prelude.{◌⊎◌, Option, option_map}
use Rattle.commands.specs.Explained.{IsBadTable, IsJudged, IsTable, LaterTold, named}
use Rattle.commands.specs.FileReports.{LacksTable}
use Rattle.commands.proofs.SetupReports.{err_otherwise, ok_otherwise}
use Rattle.commands.proofs.Tellings.{later_told}
use Rattle.commands.proofs.explaining.files_refused.Goals as goal

pub returns-in-Ok-None-clause-ok : goal.returns-in-Ok-None-clause-ok
returns-in-Ok-None-clause-ok g c =
    let has = g.F.Files.has c.args.files.now in
    let s = c.args.subject in
    let plan = c.args.plan.now in
    let items : Option (Vec ℕ Global) → Option (List ℕ) = option_map {T = Vec ℕ Global} {U = List ℕ} (λ v. v.items) in
    let good = subst (λ o. IsJudged has (IsTable plan) (IsBadTable plan) (named s.table) (items o)) c.in-Ok-None.field-0-is c.in-Ok-None.ensures.ok in
    ok_otherwise (λ told. LaterTold has plan (named s.steps) (named s.actions) (items told)) _ (λ told is. later_told has plan (named s.table) (named s.steps) (named s.actions) good (items told) is) c.later_refused.result c.later_refused.ensures.ok

pub returns-in-Ok-None-clause-err : goal.returns-in-Ok-None-clause-err
returns-in-Ok-None-clause-err g c =
    let has = g.F.Files.has c.args.files.now in
    let lacks = g.F.Files.lacks c.args.files.now in
    let s = c.args.subject in
    err_otherwise (λ number. LacksTable has lacks (named s.steps) number ⊎ LacksTable has lacks (named s.actions) number) _ (λ number lacking. inr lacking) c.later_refused.result c.later_refused.ensures.err

pub returns-in-Ok-Some-clause-ok : goal.returns-in-Ok-Some-clause-ok
returns-in-Ok-Some-clause-ok g c =
    let has = g.F.Files.has c.args.files.now in
    let s = c.args.subject in
    let plan = c.args.plan.now in
    let items : Option (Vec ℕ Global) → Option (List ℕ) = option_map {T = Vec ℕ Global} {U = List ℕ} (λ v. v.items) in
    inl (subst (λ o. IsJudged has (IsTable plan) (IsBadTable plan) (named s.table) (items o)) c.in-Ok-Some.field-0-is c.in-Ok-Some.ensures.ok)
