use Rattle.std.proofs.Common.{rules}
use Rattle.trace.proofs.Blamed.{blamed}
use Rattle.trace.proofs.Found.{failed_with}
use Rattle.trace.proofs.TurnLines.{foreign_turn_in, no_key_in, no_outcome_in, turn_in}
use Rattle.trace.proofs.ordered.turn_in.Goals as goal

pub returns-in_default-clause-err : goal.returns-in_default-clause-err
returns-in_default-clause-err c = no_key_in c.args.plan.now c.args.text.now c.in_default.ensures.none

pub returns-in_err-outcome-clause-err : goal.returns-in_err-outcome-clause-err
returns-in_err-outcome-clause-err c =
    let plan = c.args.plan.now in
    let text = c.args.text.now in
    let rest = c.in-Some.rest.now in
    let key = c.in-Some.key in
    let cut = c.in-Some.ensures.some in
    failed_with _ c.from_residual.result c.in_err-outcome.field-0.0 (search rules) (blamed c.in_err-outcome.field-0.0
    (no_outcome_in plan text rest key cut.0 cut.1) (foreign_turn_in plan text rest key cut.0 cut.1) c.in_err-outcome.ensures.err)

pub returns-clause-ok : goal.returns-clause-ok
returns-clause-ok c =
    let cut = c.in-Some.ensures.some in
    turn_in c.args.plan.now c.args.text.now c.in-Some.rest.now c.in-Some.key c.in_ok-outcome.outcome cut.0 cut.1 c.in_ok-outcome.ensures.ok
