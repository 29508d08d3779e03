use Rattle.std.proofs.Common.{sym, subst}
use Rattle.std.specs.Str.{IsUtf8}
use Rattle.trace.proofs.TurnLines.{IsUtf8-turn}
use Rattle.trace.proofs.ordered.read_turn.Goals as goal

pub returns-in-Err-clause-err : goal.returns-in-Err-clause-err
returns-in-Err-clause-err c = λ line h e. c.in-Err.ensures.cases.0 (subst IsUtf8 (sym e) (IsUtf8-turn c.args.plan.now line h))
