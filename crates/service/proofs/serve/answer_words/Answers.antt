use Rattle.std.proofs.Common.{◌≡◌, ℕ, List, inl, inr, map, string_bytes}
use Rattle.trace.specs.Went.{IsStopped, IsWritten}
use Rattle.service.proofs.Told.{asked_not_warned}
use Rattle.service.proofs.serve.answer_words.Goals as goal

pub returns-in-Ok : goal.returns-in-Ok
returns-in-Ok g c =
    let wrote : List ℕ → Type 0 = IsWritten g.W.Write.contents c.args.out.now c.do_asked.new.out in
    let cut : List ℕ → ℕ → Type 0 = IsStopped g.W.Write.contents c.args.out.now c.do_asked.new.out in
    let report = c.do_asked.ensures.report in
    record {
      report = inl (record { what = c.in-Ok.asked; is = c.in-Ok.ensures; on = report });
      warned =
          asked_not_warned g.E.Write.contents (g.F.Files.has c.args.files.now) (g.F.Files.lacks c.args.files.now) (c.do_asked.new.out ≡ c.args.out.now) wrote cut c.args.err.now c.in-Ok.asked c.do_asked.result report;
    }

pub returns-in-Err : goal.returns-in-Err
returns-in-Err g c = record { report = inr (c.refuse.ensures.report (map string_bytes c.args.words.now) c.in-Err.ensures); warned = c.refuse.ensures.warned }
