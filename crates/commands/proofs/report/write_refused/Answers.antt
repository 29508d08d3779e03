use Rattle.std.proofs.Common.{List, ℕ, ◌++◌, rules, subst}
use Rattle.std.specs.Prelude.{codes, decimal, OnErr}
use Rattle.commands.specs.Written.{IsCut}
use Rattle.commands.proofs.Pieces.{cut_before, grouped, on_cut}
use Rattle.commands.proofs.report.write_refused.Goals as goal

pub returns-in_err-write_number-clause-err : goal.returns-in_err-write_number-clause-err
returns-in_err-write_number-clause-err g c =
    let cut : List ℕ → Type 0 = IsCut g.E.Write.contents c.args.err.now c.write_number.new.out in
    let place = (codes " at " ++ decimal c.args.place) ++ codes "\n" in
    let line = grouped (codes "refused ") (decimal c.args.number) (codes " at ") (decimal c.args.place) (codes "\n") in
    let h = subst cut line (cut_before place c.in_err-write_number.ensures.err) in
    search (rules, h)

pub returns-clause-err : goal.returns-clause-err
returns-clause-err g c =
    let new = c.write_line.new.out in
    let place = (codes " at " ++ decimal c.args.place) ++ codes "\n" in
    let line = grouped (codes "refused ") (decimal c.args.number) (codes " at ") (decimal c.args.place) (codes "\n") in
    subst (λ (l : List ℕ). OnErr c.write_line.result (IsCut g.E.Write.contents c.args.err.now new l)) line (on_cut new place c.write_line.result c.in_ok-write_number.ensures.ok c.write_line.ensures.err)
