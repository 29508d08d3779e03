use Rattle.std.proofs.Common.{sym, subst}
use Rattle.std.specs.Str.{IsUtf8}
use Rattle.trace.proofs.Dark.{IsUtf8-line}
use Rattle.trace.proofs.reading.read_line.Goals as goal

pub returns-in-Err-clause-err : goal.returns-in-Err-clause-err
returns-in-Err-clause-err c = λ line h e. c.in-Err.ensures.cases.0 (subst IsUtf8 (sym e) (IsUtf8-line c.args.plan.now line h))
