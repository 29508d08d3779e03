use Rattle.std.proofs.Common.{rules, lit<}
use Rattle.trace.proofs.Actions.{written_cut, written_uncut}
use Rattle.trace.proofs.Blamed.{blamed}
use Rattle.trace.proofs.Found.{cut_parts, failed_with, uncut}
use Rattle.trace.proofs.written.name_and_arguments.Goals as goal

pub returns-in_err-bracketed-in-Some-clause-err : goal.returns-in_err-bracketed-in-Some-clause-err
returns-in_err-bracketed-in-Some-clause-err c =
    let parts = cut_parts 40 (lit< tt) c.args.text.now c.in-Some.name c.in-Some.rest c.in-Some.ensures.cases in
    failed_with _ c.from_residual.result c.in_err-bracketed-in-Some.field-0.0 (search rules) (blamed c.in_err-bracketed-in-Some.field-0.0
    (λ none w h e. none w.args (written_cut c.args.plan.now c.args.text.now c.in-Some.name.now c.in-Some.rest.now w parts.0 parts.1 h e).1) (λ no. no) c.in_err-bracketed-in-Some.ensures.err)

pub returns-in_ok-bracketed-in-Some-clause-name : goal.returns-in_ok-bracketed-in-Some-clause-name
returns-in_ok-bracketed-in-Some-clause-name c =
    let parts = cut_parts 40 (lit< tt) c.args.text.now c.in-Some.name c.in-Some.rest c.in-Some.ensures.cases in
    λ w h e. (written_cut c.args.plan.now c.args.text.now c.in-Some.name.now c.in-Some.rest.now w parts.0 parts.1 h e).0

pub returns-in-None-clause-name : goal.returns-in-None-clause-name
returns-in-None-clause-name c = λ w h e. written_uncut c.args.plan.now c.args.text.now w (uncut 40 (lit< tt) c.args.text.now c.in-None.ensures.cases) e
