use Rattle.std.proofs.Common.{◌≡◌, ℕ, List, sym, subst}
use Rattle.commands.specs.Formatting.{IsFormatReport, IsFormatted, IsUnformatted}
use Rattle.trace.specs.Went.{IsStopped, IsWritten}
use Rattle.commands.proofs.Formattings.{format_reported, format_fault_reported}
use Rattle.commands.proofs.formatting.format_file.Goals as goal

pub returns-in-Ok-format_source : goal.returns-in-Ok-format_source
returns-in-Ok-format_source g c =
    let has = g.F.Files.has c.args.files.now c.args.name.now in
    let wrote : List ℕ → Type 0 = IsWritten g.W.Write.contents c.args.out.now c.format_source.new.out in
    format_reported has c.in-Ok.source.items c.in-Ok.ensures.ok wrote (subst (λ (l : List ℕ). IsFormatted l wrote) c.as_slice.ensures.value c.in-Ok-format_source.ensures.formatted)

pub returns : goal.returns
returns g c =
    let has = g.F.Files.has c.args.files.now c.args.name.now in
    let lacks = g.F.Files.lacks c.args.files.now c.args.name.now in
    let kept : Type 0 = c.format_source.new.out ≡ c.args.out.now in
    let wrote : List ℕ → Type 0 = IsWritten g.W.Write.contents c.args.out.now c.format_source.new.out in
    let cut : List ℕ → ℕ → Type 0 = IsStopped g.W.Write.contents c.args.out.now c.format_source.new.out in
    let said =
    format_fault_reported has c.in-Ok.source.items c.in-Ok.ensures.ok lacks kept wrote cut c.in-Err-format_source.fault
    (subst (λ (l : List ℕ). IsUnformatted l kept cut c.in-Err-format_source.fault) c.as_slice.ensures.value c.in-Err-format_source.ensures.unformatted) in
    subst (IsFormatReport has lacks kept wrote cut) (sym c.report_of.ensures) said
