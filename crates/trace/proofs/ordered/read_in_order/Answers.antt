use Rattle.std.proofs.Common.{◌+◌, arith, rules, sym, subst, Some}
use Rattle.trace.proofs.Found.{failed_with}
use Rattle.trace.proofs.InOrder.{IsReadInOrder, all_in_order, head_read, next_fault, nothing_left, ordered_some, turn_more}
use Rattle.trace.proofs.ordered.read_in_order.Goals as goal

pub split_line-requires : goal.split_line-requires
split_line-requires c = ordered_some c.args.bytes.now c.requires

pub loop-rest-init : goal.loop-rest-init
loop-rest-init c = record {
  read = head_read c.args.plan.now c.args.bytes.now c.split_line.result.0.now c.split_line.result.1.now c.new-actions.result.items c.requires c.split_line.ensures.first (search rules);
  room = omega (arith, c.split_line.ensures.shorter);
}

pub loop-rest-preserved : goal.loop-rest-preserved
loop-rest-preserved c =
    let plan = c.args.plan.now in
    let later = c.split_line-in-loop-rest.result.1.now in
    let says = c.in_ok-key.ensures.ok in
    let more = turn_more plan c.args.bytes.now c.loop-rest.rest.now c.split_line-in-loop-rest.result.0.now later c.loop-rest.line c.loop-rest.last c.loop-rest.actions.items c.in_ok-key.field-0 c.loop-rest.invariant.read c.split_line-in-loop-rest.ensures.first says.0 says.1 in
    record {
      read = subst (IsReadInOrder plan c.args.bytes.now later (c.loop-rest.line + 1) (Some c.in_ok-key.field-0.key)) (sym c.in_ok-keep.ensures) more;
      room = omega (arith, c.loop-rest.invariant.room, c.split_line-in-loop-rest.ensures.shorter);
    }

pub returns-in_err-key-clause-err : goal.returns-in_err-key-clause-err
returns-in_err-key-clause-err c =
    failed_with _ c.from_residual.result c.in_err-key.field-0.0 (search rules)
    (next_fault c.args.plan.now c.args.bytes.now c.loop-rest.rest.now c.split_line-in-loop-rest.result.0.now c.split_line-in-loop-rest.result.1.now c.loop-rest.line c.loop-rest.last c.loop-rest.actions.items c.in_err-key.field-0.0 c.loop-rest.invariant.read c.split_line-in-loop-rest.ensures.first c.in_err-key.ensures.err)

pub returns-clause-ok : goal.returns-clause-ok
returns-clause-ok c = all_in_order c.args.plan.now c.args.bytes.now c.loop-rest.rest.now c.loop-rest.line c.loop-rest.last c.loop-rest.actions.items c.loop-rest.invariant.read (nothing_left c.loop-rest.rest.now c.is_empty.result c.is_empty.ensures c.loop-rest-test.false)
