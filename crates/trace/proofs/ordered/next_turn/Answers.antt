use Rattle.std.proofs.Common.{refl}
use Rattle.trace.proofs.InOrder.{late_here, line_fault}
use Rattle.trace.proofs.ordered.next_turn.Goals as goal

pub returns-in-Err-clause-err : goal.returns-in-Err-clause-err
returns-in-Err-clause-err c = line_fault c.args.plan.now c.args.last c.args.text.now c.args.line c.in-Err.fault c.fault_at.result c.fault_at.ensures c.in-Err.ensures.err

pub returns-then-is_after-clause-ok : goal.returns-then-is_after-clause-ok
returns-then-is_after-clause-ok c = (c.in-Ok.ensures.ok, c.is_after.ensures.0 c.if-is_after.true)

pub returns-else-is_after-clause-err : goal.returns-else-is_after-clause-err
returns-else-is_after-clause-err c = (refl, late_here c.args.plan.now c.args.last c.args.text.now c.in-Ok.turned c.is_after.result c.in-Ok.ensures.ok c.is_after.ensures c.if-is_after.false)
