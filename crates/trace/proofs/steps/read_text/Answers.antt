use Rattle.std.proofs.Common.{rules, lit<}
use Rattle.trace.proofs.Blamed.{blamed}
use Rattle.trace.proofs.Found.{cut_in, failed_with}
use Rattle.trace.proofs.StepTexts.{said_process, said_back, said_commit, said_meet, said_deliver, foreign_meet, foreign_deliver, bad_meet, bad_deliver}
use Rattle.trace.proofs.steps.read_text.Goals as goal

pub returns-in_err-signed-in-deliver-clause-err : goal.returns-in_err-signed-in-deliver-clause-err
returns-in_err-signed-in-deliver-clause-err c =
    let word = c.in_ok-word.word.now in
    let rest = c.in_ok-word.rest.now in
    let cut = cut_in 32 (lit< tt) c.args.text.now c.split_once.result c.in_ok-word.word c.in_ok-word.rest (search rules) c.split_once.ensures.cases in
    failed_with _ c.from_residual-in_err-signed-in-deliver.result c.in_err-signed-in-deliver.field-0.0 (search rules) (blamed c.in_err-signed-in-deliver.field-0.0
    (bad_deliver c.args.plan.now c.args.text.now word rest cut (search rules)) (foreign_deliver c.args.plan.now c.args.text.now word rest cut (search rules)) c.in_err-signed-in-deliver.ensures.err)

pub returns-in_err-message-in-meet-clause-err : goal.returns-in_err-message-in-meet-clause-err
returns-in_err-message-in-meet-clause-err c =
    let word = c.in_ok-word.word.now in
    let rest = c.in_ok-word.rest.now in
    let cut = cut_in 32 (lit< tt) c.args.text.now c.split_once.result c.in_ok-word.word c.in_ok-word.rest (search rules) c.split_once.ensures.cases in
    failed_with _ c.from_residual-in_err-message-in-meet.result c.in_err-message-in-meet.field-0.0 (search rules) (blamed c.in_err-message-in-meet.field-0.0
    (bad_meet c.args.plan.now c.args.text.now word rest cut (search rules)) (foreign_meet c.args.plan.now c.args.text.now word rest cut (search rules)) c.in_err-message-in-meet.ensures.err)

pub returns-in_ok-ok_or-in-process-clause-ok : goal.returns-in_ok-ok_or-in-process-clause-ok
returns-in_ok-ok_or-in-process-clause-ok c =
    let cut = cut_in 32 (lit< tt) c.args.text.now c.split_once.result c.in_ok-word.word c.in_ok-word.rest (search rules) c.split_once.ensures.cases in
    said_process c.args.plan.now c.args.text.now c.in_ok-word.word.now c.in_ok-word.rest.now cut c.in_ok-ok_or-in-process.field-0 (search rules) (search rules) (search rules)

pub returns-in_ok-signed-in-deliver-clause-ok : goal.returns-in_ok-signed-in-deliver-clause-ok
returns-in_ok-signed-in-deliver-clause-ok c =
    let cut = cut_in 32 (lit< tt) c.args.text.now c.split_once.result c.in_ok-word.word c.in_ok-word.rest (search rules) c.split_once.ensures.cases in
    let read = c.in_ok-signed-in-deliver.ensures.ok in
    said_deliver c.args.plan.now c.args.text.now c.in_ok-word.word.now c.in_ok-word.rest.now cut c.in_ok-signed-in-deliver.field-0.sign c.in_ok-signed-in-deliver.field-0.message read.0 (search rules) read.1 read.2

pub returns-in_ok-message-in-meet-clause-ok : goal.returns-in_ok-message-in-meet-clause-ok
returns-in_ok-message-in-meet-clause-ok c =
    let cut = cut_in 32 (lit< tt) c.args.text.now c.split_once.result c.in_ok-word.word c.in_ok-word.rest (search rules) c.split_once.ensures.cases in
    said_meet c.args.plan.now c.args.text.now c.in_ok-word.word.now c.in_ok-word.rest.now cut c.in_ok-message-in-meet.field-0 (search rules) c.in_ok-message-in-meet.ensures.ok

pub returns-in_ok-ok_or-in-back-clause-ok : goal.returns-in_ok-ok_or-in-back-clause-ok
returns-in_ok-ok_or-in-back-clause-ok c =
    let cut = cut_in 32 (lit< tt) c.args.text.now c.split_once.result c.in_ok-word.word c.in_ok-word.rest (search rules) c.split_once.ensures.cases in
    said_back c.args.plan.now c.args.text.now c.in_ok-word.word.now c.in_ok-word.rest.now cut c.in_ok-ok_or-in-back.field-0 (search rules) (search rules) (search rules)

pub returns-in_ok-ok_or-in-commit-clause-ok : goal.returns-in_ok-ok_or-in-commit-clause-ok
returns-in_ok-ok_or-in-commit-clause-ok c =
    let cut = cut_in 32 (lit< tt) c.args.text.now c.split_once.result c.in_ok-word.word c.in_ok-word.rest (search rules) c.split_once.ensures.cases in
    said_commit c.args.plan.now c.args.text.now c.in_ok-word.word.now c.in_ok-word.rest.now cut c.in_ok-ok_or-in-commit.field-0 (search rules) (search rules) (search rules)
