use Rattle.std.proofs.Common.{rules}
use Rattle.std.specs.Prelude.{codes}
use Rattle.trace.proofs.Blamed.{blamed}
use Rattle.trace.proofs.Found.{failed_with, same_texts, other_texts}
use Rattle.trace.proofs.TurnLines.{known_outcome}
use Rattle.trace.proofs.ordered.outcome_in.Goals as goal

pub returns-in_err-read_action-clause-err : goal.returns-in_err-read_action-clause-err
returns-in_err-read_action-clause-err c =
    let text = c.args.text.now in
    failed_with _ c.from_residual.result c.in_err-read_action.field-0.0 (search rules) (blamed c.in_err-read_action.field-0.0
    (λ none. (other_texts c.eq.result text (codes "idle") c.eq.ensures c.if-eq.false, none)) (λ foreign. foreign) c.in_err-read_action.ensures.err)

pub returns-then-eq-clause-ok : goal.returns-then-eq-clause-ok
returns-then-eq-clause-ok c = (tt, same_texts c.eq.result c.args.text.now (codes "idle") c.eq.ensures c.if-eq.true)

pub returns-in_ok-read_action-clause-ok : goal.returns-in_ok-read_action-clause-ok
returns-in_ok-read_action-clause-ok c = known_outcome c.args.plan.now c.args.text.now c.in_ok-read_action.field-0 c.in_ok-read_action.ensures.ok
