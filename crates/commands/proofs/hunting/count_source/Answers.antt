use Rattle.std.proofs.Common.{◌≡◌, ℕ, List, true}
use Rattle.hunt.specs.Seeds.{hunted}
use Rattle.trace.specs.Went.{IsStopped, IsWritten}
use Rattle.commands.specs.Hunting.{course_of, end_of}
use Rattle.commands.proofs.HuntReports.{fault_told, number_told}
use Rattle.commands.proofs.hunting.count_source.Goals as goal

pub returns-in-Ok : goal.returns-in-Ok
returns-in-Ok g c =
    let old = c.args.out.now in
    let new = c.count.new.out in
    let kept : Type 0 = new ≡ old in
    let wrote : List ℕ → Type 0 = IsWritten g.W.Write.contents old new in
    let cut : List ℕ → ℕ → Type 0 = IsStopped g.W.Write.contents old new in
    let a = c.args.hunting in
    number_told (hunted c.args.source.now c.args.action.now (course_of a)) a.seeds.first (end_of a) kept wrote cut a.count c.requires c.in-Ok.ensures.counted

pub returns-in-Err : goal.returns-in-Err
returns-in-Err g c =
    let old = c.args.out.now in
    let new = c.count.new.out in
    let kept : Type 0 = new ≡ old in
    let wrote : List ℕ → Type 0 = IsWritten g.W.Write.contents old new in
    let cut : List ℕ → ℕ → Type 0 = IsStopped g.W.Write.contents old new in
    let a = c.args.hunting in
    fault_told (hunted c.args.source.now c.args.action.now (course_of a)) a.seeds.first (end_of a) kept wrote cut a.count true c.requires c.in-Err.fault c.report_of.result c.report_of.ensures c.in-Err.ensures.err
