use Rattle.std.proofs.Common.{◌≡◌, Global, List, ℕ, Vec, inl, refl}
use Rattle.std.specs.Prelude.{Option, option_map}
use Rattle.trace.specs.Went.{IsStopped, IsWritten}
use Rattle.commands.specs.Explained.{AllTold, LacksAny, named}
use Rattle.commands.proofs.Tellings.{telling_of}
use Rattle.commands.proofs.explaining.tell_files.Goals as goal

pub returns-in-Ok : goal.returns-in-Ok
returns-in-Ok g c =
    let has = g.F.Files.has c.args.files.now in
    let lacks = g.F.Files.lacks c.args.files.now in
    let s = c.args.subject in
    let old = c.args.out.now in
    let new = c.tell.new.out in
    let items : Option (Vec ℕ Global) → Option (List ℕ) = option_map {T = Vec ℕ Global} {U = List ℕ} (λ v. v.items) in
    telling_of (items c.in-Ok.told) (AllTold has s.source.now (named s.table) (named s.steps) (named s.actions)) (LacksAny has lacks s.source.now (named s.table) (named s.steps) (named s.actions)) (new ≡ old)
    (IsWritten g.W.Write.contents old new) (IsStopped g.W.Write.contents old new) c.in-Ok.ensures.ok c.tell.result c.tell.ensures

pub returns-in-Err : goal.returns-in-Err
returns-in-Err g c = inl (c.in-Err.ensures.err, refl)
