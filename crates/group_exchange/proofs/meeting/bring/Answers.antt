use Rattle.std.proofs.Common.{arith}
use Rattle.group_exchange.proofs.Spreading.{brought_at, brought_none}
use Rattle.group_exchange.proofs.meeting.bring.Goals as goal

pub returns-then-group-stubs : goal.returns-then-group-stubs
returns-then-group-stubs c = brought_at c.args.group c.args.came c.args.copies c.args.stubs.now c.index-stubs-group.result c.arrive.new.self c.if-group-stubs.true c.arrive.ensures

pub returns-else-group-stubs : goal.returns-else-group-stubs
returns-else-group-stubs c = brought_none c.args.group c.args.came c.args.copies c.args.stubs.now (omega (arith, c.if-group-stubs.false))
