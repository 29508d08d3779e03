use Rattle.std.proofs.Common.{rules}
use Rattle.trace.proofs.Blamed.{blamed}
use Rattle.trace.proofs.Found.{failed_with, some_of}
use Rattle.trace.proofs.StepTexts.{message_read, message_foreign, no_message}
use Rattle.trace.proofs.steps.message.Goals as goal

pub returns-in_err-action-clause-err : goal.returns-in_err-action-clause-err
returns-in_err-action-clause-err c =
    let plan = c.args.plan.now in
    let text = c.args.text.now in
    let rest = c.in_ok-to.rest.now in
    failed_with _ c.from_residual-in_err-action.result c.in_err-action.field-0.0 (search rules) (blamed c.in_err-action.field-0.0
    (no_message plan text rest (λ to key later low in_range e. (some_of _ c.address_before.result (c.in_ok-to.to, c.in_ok-to.key, c.in_ok-to.rest) (search rules) (c.address_before.ensures.only to key later low in_range e)).2))
    (message_foreign plan text rest c.in_ok-to.to c.in_ok-to.key (search rules) (search rules) (search rules)) c.in_err-action.ensures.err)

pub returns-clause-ok : goal.returns-clause-ok
returns-clause-ok c = message_read c.args.plan.now c.args.text.now c.in_ok-to.rest.now c.in_ok-to.to c.in_ok-to.key c.in_ok-action.action (search rules) (search rules) (search rules) c.in_ok-action.ensures.ok
