use Rattle.std.proofs.Common.{inl, inr, subst}
use Rattle.service.specs.Told.{IsWarned}
use Rattle.service.proofs.Told.{told}
use Rattle.service.proofs.serve.serve_person.Goals as goal

pub returns-then-is_cut : goal.returns-then-is_cut
returns-then-is_cut g c =
    let report = c.answer-report.result in
    let is = c.is_cut.ensures.yes c.if-is_cut.true in
    let same = subst (IsWarned g.E.Write.contents c.args.err.now c.answer-report.new.err) is c.answer-report.ensures.warned in
    record { status = (report, c.status.ensures, c.answer-report.ensures.report, inl (is, same)) }

pub returns : goal.returns
returns g c =
    let report = c.answer-report.result in
    let line = told g.E.Write.contents c.args.err.now c.answer-report.new.err c.tell.new.err report c.answer-report.ensures.warned c.tell.ensures.said c.tell.ensures.quiet in
    record { status = (report, c.status-2.ensures, c.answer-report.ensures.report, inr (c.is_cut.ensures.no c.if-is_cut.false, c.tell.new.err, line, c.tell_why.ensures)) }
