use Rattle.std.proofs.Common.{◌≡◌, ℕ, List, sym, subst}
use Rattle.commands.specs.Printing.{IsPrinted, IsUnprinted}
use Rattle.commands.specs.Reports.{IsPrintReport}
use Rattle.trace.specs.Went.{IsStopped, IsWritten}
use Rattle.commands.proofs.Printings.{print_reported, print_fault_reported}
use Rattle.commands.proofs.over_files.print_file.Goals as goal

pub returns-in-Ok-print_source : goal.returns-in-Ok-print_source
returns-in-Ok-print_source g c =
    let has = g.F.Files.has c.args.files.now c.args.name.now in
    let lacks = g.F.Files.lacks c.args.files.now c.args.name.now in
    let wrote : List ℕ → Type 0 = IsWritten g.W.Write.contents c.args.out.now c.print_source.new.out in
    let cut : List ℕ → ℕ → Type 0 = IsStopped g.W.Write.contents c.args.out.now c.print_source.new.out in
    record {
      report =
          print_reported has lacks (c.print_source.new.out ≡ c.args.out.now) wrote cut c.in-Ok.source.items c.in-Ok.ensures.ok
          (subst (λ (l : List ℕ). IsPrinted l wrote) c.as_slice.ensures.value c.in-Ok-print_source.ensures.printed);
    }

pub returns : goal.returns
returns g c =
    let has = g.F.Files.has c.args.files.now c.args.name.now in
    let lacks = g.F.Files.lacks c.args.files.now c.args.name.now in
    let kept : Type 0 = c.print_source.new.out ≡ c.args.out.now in
    let wrote : List ℕ → Type 0 = IsWritten g.W.Write.contents c.args.out.now c.print_source.new.out in
    let cut : List ℕ → ℕ → Type 0 = IsStopped g.W.Write.contents c.args.out.now c.print_source.new.out in
    let said =
    print_fault_reported has lacks kept wrote cut c.in-Ok.source.items c.in-Ok.ensures.ok c.in-Err-print_source.refused
    (subst (λ (l : List ℕ). IsUnprinted l kept cut c.in-Err-print_source.refused) c.as_slice.ensures.value c.in-Err-print_source.ensures.unprinted) in
    record { report = subst (IsPrintReport has lacks kept wrote cut) (sym c.report_of.ensures) said }
