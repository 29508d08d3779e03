use Rattle.std.proofs.Common.{◌≡◌, Global, List, ℕ, Vec, ap, subst, sym}
use Rattle.std.specs.Prelude.{Option, Some, option_map}
use Rattle.trace.specs.Went.{IsStopped, IsWritten}
use Rattle.commands.specs.declared.report.Report.TheVariants.{Fault}
use Rattle.commands.specs.Explained.{IsTellingReport}
use Rattle.commands.proofs.Tellings.{text_cut}
use Rattle.commands.proofs.explaining.tell.Goals as goal

pub returns-in-Some : goal.returns-in-Some
returns-in-Some g c =
    let known = g.W.Write.contents in
    let old = c.args.out.now in
    let new = c.write_text.new.out in
    let items : Option (Vec ℕ Global) → Option (List ℕ) = option_map {T = Vec ℕ Global} {U = List ℕ} (λ v. v.items) in
    let Told : Option (List ℕ) → Type 0 = λ t. t ≡ items c.args.told in
    let is : Told (Some c.in-Some.text.items) = ap items (sym c.in-Some.is) in
    subst (λ n. IsTellingReport Told (λ number. ⊥) (new ≡ old) (IsWritten known old new) (IsStopped known old new) (Fault n)) (sym c.number.ensures)
    (text_cut known old new Told (λ number. ⊥) c.in-Some.text.items c.as_slice.result.now c.as_slice.ensures.value is c.in-Err.fault c.in-Err.ensures.err)
