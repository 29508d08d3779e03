use Rattle.std.proofs.Common.{rules, List, ℕ, subst, ◌∙◌}
use Rattle.std.specs.Prelude.{decimal, OnErr}
use Rattle.commands.specs.Written.{IsCut}
use Rattle.commands.proofs.Pieces.{cut_before, is_cut, on_cut, on_stopped}
use Rattle.commands.proofs.writing.write_number.Goals as goal

pub returns-in_err-write_text-clause-err : goal.returns-in_err-write_text-clause-err
returns-in_err-write_text-clause-err g c =
    let h = cut_before (decimal c.args.number) (is_cut c.in_err-write_text.ensures.err) in
    search (rules, h)

pub returns-clause-err : goal.returns-clause-err
returns-clause-err g c =
    let known = g.W.Write.contents in
    let old = c.write_text.new.out in
    let new = c.write_text-2.new.out in
    let answer = c.write_text-2.result in
    let digits = on_stopped known old new c.as_bytes.result.now answer c.write_text-2.ensures.err in
    on_cut new (decimal c.args.number) answer c.in_ok-write_text.ensures.ok (subst (λ (l : List ℕ). OnErr answer (IsCut known old new l)) (c.as_bytes.ensures.value ∙ c.format.ensures.text) digits)
