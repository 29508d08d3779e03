use Rattle.std.proofs.Common.{◌≡◌, ◌≢◌, ℕ, List, sym, subst}
use Rattle.std.specs.Prelude.{true, false}
use Rattle.commands.specs.Formatting.{IsFormatted, IsLaidOut, IsLayoutReport, IsUnlaid}
use Rattle.commands.proofs.Formattings.{layout_reported, layout_fault_reported}
use Rattle.commands.proofs.formatting.judge_layout.Goals as goal

pub returns-in-Ok-is_laid_out : goal.returns-in-Ok-is_laid_out
returns-in-Ok-is_laid_out g c =
    let has = g.F.Files.has c.args.files.now c.args.name.now in
    let lacks = g.F.Files.lacks c.args.files.now c.args.name.now in
    let same = c.in-Ok-is_laid_out.same in
    let yes = subst (λ (l : List ℕ). same ≡ true → IsLaidOut l l) c.as_slice.ensures.value c.in-Ok-is_laid_out.ensures.yes in
    let no = subst (λ (l : List ℕ). same ≡ false → IsFormatted l (λ text. text ≢ l)) c.as_slice.ensures.value c.in-Ok-is_laid_out.ensures.no in
    subst (IsLayoutReport has lacks) (sym c.layout_report.ensures) (layout_reported has c.in-Ok.source.items c.in-Ok.ensures.ok lacks same yes no)

pub returns : goal.returns
returns g c =
    let has = g.F.Files.has c.args.files.now c.args.name.now in
    let lacks = g.F.Files.lacks c.args.files.now c.args.name.now in
    let said =
    layout_fault_reported has c.in-Ok.source.items c.in-Ok.ensures.ok lacks c.in-Err-is_laid_out.fault
    (subst (λ (l : List ℕ). IsUnlaid l c.in-Err-is_laid_out.fault) c.as_slice.ensures.value c.in-Err-is_laid_out.ensures.err) in
    subst (IsLayoutReport has lacks) (sym c.report_of.ensures) said
