use Rattle.task_seed.proofs.Words.{split_number}
use Rattle.task_seed.proofs.lines.number_before.Goals as goal

pub returns-in_err-word-clause-only : goal.returns-in_err-word-clause-only
returns-in_err-word-clause-only c n rest small e =
    let split = split_number c.args.text.now rest n c.split_once.result c.split_once.ensures.cases small e in
    absurd (rw c.in_err-word.was at split)

pub returns-in_err-number-clause-only : goal.returns-in_err-number-clause-only
returns-in_err-number-clause-only c n rest small e =
    let split = split_number c.args.text.now rest n c.split_once.result c.split_once.ensures.cases small e in
    let parts = rw c.in_ok-word.was at split in
    let missing = c.in_err-number.ensures.only n small parts.0 in cc

pub returns-clause-only : goal.returns-clause-only
returns-clause-only c n rest small e =
    let split = split_number c.args.text.now rest n c.split_once.result c.split_once.ensures.cases small e in
    let parts = rw c.in_ok-word.was at split in
    let same = c.in_ok-number.ensures.only n small parts.0 in ((cc), parts.1)
