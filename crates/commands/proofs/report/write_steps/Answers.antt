use Rattle.std.proofs.Common.{rules, ℕ, subst}
use Rattle.std.specs.Prelude.{flat_map}
use Rattle.trace.specs.Went.{IsWritten}
use Rattle.commands.specs.Reports.{refused_line}
use Rattle.commands.specs.Written.{IsCut}
use Rattle.commands.proofs.Pieces.{line_cut, line_written}
use Rattle.commands.proofs.report.write_steps.Goals as goal

pub returns-in_err-write_step-clause-err : goal.returns-in_err-write_step-clause-err
returns-in_err-write_step-clause-err g c =
    let step = c.in-Some.step.now in
    let cut = subst (λ (n : ℕ). IsCut g.E.Write.contents c.loop-step.err c.write_step.new.err (refused_line (record { step = step.step; number = n }))) c.from.ensures c.in_err-write_step.ensures.err in
    let h : IsCut g.E.Write.contents c.args.err.now c.write_step.new.err (flat_map refused_line c.args.refused.now) =
    line_cut refused_line c.loop-step.rest.now c.in-Some.later.now step c.in-Some.ensures.cases.0 c.loop-step.invariant cut in
    search (rules, h)

pub loop-step-preserved : goal.loop-step-preserved
loop-step-preserved g c =
    let step = c.in-Some.step.now in
    let went = subst (λ (n : ℕ). IsWritten g.E.Write.contents c.loop-step.err c.write_step.new.err (refused_line (record { step = step.step; number = n }))) c.from.ensures c.in_ok-write_step.ensures.ok in
    line_written refused_line c.loop-step.rest.now c.in-Some.later.now step c.in-Some.ensures.cases.0 c.loop-step.invariant went
