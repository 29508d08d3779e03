use Rattle.std.specs.Prelude.{◌<◌, ◌≤◌, ℕ, List, length, take}
use Rattle.std.proofs.Common.{arith, ap, ◌∙◌, sym, subst, inr, refl}
use Rattle.std.proofs.lemmas.List.{length-take}
use Rattle.commands.specs.Whole.{take_whole}
use Rattle.commands.specs.Unread.{most_bytes}
use Rattle.commands.proofs.reading.read_whole.Goals as goal

pub returns-in-Ok-clause-ok : goal.returns-in-Ok-clause-ok
returns-in-Ok-clause-ok g c =
    let r = c.in-Ok.ensures.ok in
    let small : length c.in-Ok.bytes.items ≤ most_bytes = omega (arith, c.in-Ok.bytes.ok.0, c.len.ensures, c.if-len-le-MOST_BYTES.true) in
    let short : length (take 16777217 r.all) < 16777217 = omega (arith, ap length r.front, small) in
    let P : List ℕ → Type 0 = λ bytes. g.F.Files.has c.args.files.now c.args.name.now bytes in
    (subst P (sym (r.front ∙ take_whole r.all 16777217 short)) r.is, small)

pub returns-in-Ok-2-clause-err : goal.returns-in-Ok-2-clause-err
returns-in-Ok-2-clause-err g c =
    let r = c.in-Ok.ensures.ok in
    let large : most_bytes < length c.in-Ok.bytes.items = omega (arith, c.in-Ok.bytes.ok.0, c.len.ensures, c.if-len-le-MOST_BYTES.false) in
    inr (refl, record { all = r.all; is = r.is; longer = omega (arith, ap length r.front, large, length-take 16777217 r.all) })
