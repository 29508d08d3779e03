use Rattle.service.proofs.Told.{told}
use Rattle.service.proofs.serve.serve.Goals as goal

pub returns : goal.returns
returns g c =
    let report = c.answer-report.result in
    record { status = (report, c.status.ensures, c.answer-report.ensures.report, told g.E.Write.contents c.args.err.now c.answer-report.new.err c.tell.new.err report c.answer-report.ensures.warned c.tell.ensures.said c.tell.ensures.quiet) }
