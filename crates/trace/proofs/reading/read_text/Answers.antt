use Rattle.std.proofs.Common.{rules, lit<, refl, true}
use Rattle.std.proofs.lemmas.Str.Pattern.{contains_char}
use Rattle.trace.proofs.Blamed.{blamed}
use Rattle.trace.proofs.Found.{failed_with, uncut}
use Rattle.trace.proofs.LineTexts.{bad_alone, bad_key, foreign_alone, given_alone}
use Rattle.trace.proofs.reading.read_text.Goals as goal

pub returns-in_err-read_action-clause-err : goal.returns-in_err-read_action-clause-err
returns-in_err-read_action-clause-err c =
    let text = c.args.text.now in
    failed_with _ c.from_residual.result c.in_err-read_action.field-0.0 (search rules) (blamed c.in_err-read_action.field-0.0
    (bad_alone c.args.plan.now text (uncut 32 (lit< tt) text c.if-not-contains.ensures.cases)) (foreign_alone c.args.plan.now text) c.in_err-read_action.ensures.err)

pub returns-then-not-contains-clause-ok : goal.returns-then-not-contains-clause-ok
returns-then-not-contains-clause-ok c = given_alone c.args.plan.now c.args.text.now c.in_ok-read_action.field-0 c.in_ok-read_action.ensures.ok

pub returns-in-None-clause-err : goal.returns-in-None-clause-err
returns-in-None-clause-err c =
    let text = c.args.text.now in
    let space = (contains_char 32 text true c.if-not-contains.ensures.cases (lit< tt)).0 refl in
    bad_key c.args.plan.now text space.0 space.1 space.2 c.in-None.ensures.only
