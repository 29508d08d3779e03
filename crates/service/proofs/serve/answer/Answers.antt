use Rattle.std.proofs.Common.{map, string_bytes}
use Rattle.service.proofs.Flushed.{flushed_report, flushed_warned}
use Rattle.service.proofs.serve.answer.Goals as goal

pub returns : goal.returns
returns g c =
    let report = c.answer_words-report.result in
    let served = c.answer_words-report.ensures in
    let flushed = c.flushed.ensures in
    record {
      report = flushed_report g.W.Write.contents (map string_bytes c.args.words.now) (g.F.Files.has c.args.files.now) (g.F.Files.lacks c.args.files.now) c.args.out.now c.answer_words-report.new.out c.flushed.new.out report c.flushed.result flushed.report flushed.out served.report;
      warned = flushed_warned g.E.Write.contents c.args.err.now c.answer_words-report.new.err report c.flushed.result flushed.report served.warned;
    }
