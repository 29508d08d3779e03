use Rattle.std.proofs.Common.{◌+◌, [], ◌∷◌, arith, append-nil, sym, subst}
use Rattle.std.specs.Prelude.{option_to_list}
use Rattle.trace.specs.TraceFile.{IsGiven, Gives}
use Rattle.trace.proofs.Sequel.{IsReadTo, actions_more}
use Rattle.trace.proofs.reading.read_lines.Goals as goal

pub loop-rest-preserved-in_ok-push-in-Ok-Some : goal.loop-rest-preserved-in_ok-push-in-Ok-Some
loop-rest-preserved-in_ok-push-in-Ok-Some c =
    let plan = c.args.plan.now in
    let text = c.split_line.result.0.now in
    let later = c.split_line.result.1.now in
    let given = subst (λ o. IsGiven plan text (option_to_list o)) c.in-Ok-Some.field-0-is c.in-Ok-Some.ensures.ok in
    let more = actions_more plan c.args.bytes.now c.loop-rest.rest.now text later c.loop-rest.line c.loop-rest.actions.items (c.in-Ok-Some.action ∷ []) c.loop-rest.invariant.read c.split_line.ensures.first given in
    record {
      read = subst (IsReadTo (Gives plan) c.args.bytes.now later (c.loop-rest.line + 1)) (sym c.in_ok-push-in-Ok-Some.ensures.items) more;
      room = omega (arith, c.loop-rest.invariant.room, c.split_line.ensures.shorter);
    }

pub loop-rest-preserved : goal.loop-rest-preserved
loop-rest-preserved c =
    let plan = c.args.plan.now in
    let text = c.split_line.result.0.now in
    let later = c.split_line.result.1.now in
    let actions = c.loop-rest.actions.items in
    let given = subst (λ o. IsGiven plan text (option_to_list o)) c.in-Ok-None.field-0-is c.in-Ok-None.ensures.ok in
    let more = actions_more plan c.args.bytes.now c.loop-rest.rest.now text later c.loop-rest.line actions [] c.loop-rest.invariant.read c.split_line.ensures.first given in
    record {
      read = subst (IsReadTo (Gives plan) c.args.bytes.now later (c.loop-rest.line + 1)) (append-nil actions) more;
      room = omega (arith, c.loop-rest.invariant.room, c.split_line.ensures.shorter);
    }
