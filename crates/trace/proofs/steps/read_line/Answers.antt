use Rattle.std.proofs.Common.{sym, subst}
use Rattle.std.specs.Str.{IsUtf8}
use Rattle.trace.proofs.StepBytes.{IsUtf8-step}
use Rattle.trace.proofs.steps.read_line.Goals as goal

pub returns-in-Err-clause-err : goal.returns-in-Err-clause-err
returns-in-Err-clause-err c = λ line h e. c.in-Err.ensures.cases.0 (subst IsUtf8 (sym e) (IsUtf8-step c.args.plan.now line h))
