use Rattle.task_seed.proofs.Words.{IsUtf8-row}
use Rattle.task_seed.proofs.table.read_row.Goals as goal

pub returns-in-Err-clause-none : goal.returns-in-Err-clause-none
returns-in-Err-clause-none c = λ row. c.in-Err.ensures.cases.0 (IsUtf8-row c.args.line.now row)
