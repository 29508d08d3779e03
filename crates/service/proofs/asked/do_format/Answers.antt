use Rattle.std.proofs.Common.{◌≡◌, ℕ, List, refl, subst, sym}
use Rattle.std.proofs.KnownBytes.{Appends-nil}
use Rattle.trace.specs.Counts.{writer_of}
use Rattle.trace.specs.Went.{IsStopped, IsWritten}
use Rattle.service.specs.Reports.{IsFormatReportOn}
use Rattle.service.proofs.asked.do_format.Goals as goal

pub returns-then-check : goal.returns-then-check
returns-then-check g c =
    let has = g.F.Files.has c.args.files.now c.args.source.now in
    let lacks = g.F.Files.lacks c.args.files.now c.args.source.now in
    let known = g.W.Write.contents in
    let old = c.args.out.now in
    let wrote : List ℕ → Type 0 = IsWritten known old old in
    let cut : List ℕ → ℕ → Type 0 = IsStopped known old old in
    subst (λ check. IsFormatReportOn check has lacks (old ≡ old) wrote cut c.judge_layout.result) (sym c.if-check.true)
    (c.judge_layout.ensures, record { bytes = Appends-nil (known (writer_of old)); failures = refl })

pub returns-else-check : goal.returns-else-check
returns-else-check g c =
    let has = g.F.Files.has c.args.files.now c.args.source.now in
    let lacks = g.F.Files.lacks c.args.files.now c.args.source.now in
    let known = g.W.Write.contents in
    let old = c.args.out.now in
    let new = c.format_file.new.out in
    let wrote : List ℕ → Type 0 = IsWritten known old new in
    let cut : List ℕ → ℕ → Type 0 = IsStopped known old new in
    subst (λ check. IsFormatReportOn check has lacks (new ≡ old) wrote cut c.format_file.result) (sym c.if-check.false) c.format_file.ensures
