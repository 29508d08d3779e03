use Rattle.std.proofs.Common.{Global, List, ℕ, Vec, subst}
use Rattle.std.specs.Prelude.{Option, option_map}
use Rattle.compose.specs.Composed.{IsComposed}
use Rattle.commands.specs.Explained.{FilesTold, named}
use Rattle.commands.proofs.SetupReports.{ok_otherwise}
use Rattle.commands.proofs.Tellings.{files_told}
use Rattle.commands.proofs.explaining.first_refused.Goals as goal

pub returns-in-Ok-compose_source-clause-ok : goal.returns-in-Ok-compose_source-clause-ok
returns-in-Ok-compose_source-clause-ok g c =
    let has = g.F.Files.has c.args.files.now in
    let lacks = g.F.Files.lacks c.args.files.now in
    let s = c.args.subject in
    let plan = c.in-Ok-compose_source.plan in
    let items : Option (Vec ℕ Global) → Option (List ℕ) = option_map {T = Vec ℕ Global} {U = List ℕ} (λ v. v.items) in
    let composed = subst (λ l. IsComposed l plan) c.as_slice.ensures.value c.in-Ok-compose_source.ensures.composed in
    ok_otherwise (λ told. FilesTold has plan (named s.table) (named s.steps) (named s.actions) (items told)) _
    (λ told is. files_told has lacks s.source.now (named s.table) (named s.steps) (named s.actions) c.in-Ok.source.items c.in-Ok.ensures.ok plan composed c.front_law.ensures.composed (items told) is)
    c.files_refused.result c.files_refused.ensures.ok
