use Rattle.std.proofs.Common.{arith}
use Rattle.exchange.proofs.Spreading.{brought_at, brought_none}
use Rattle.exchange.proofs.meeting.bring.Goals as goal

pub returns-then-from-stubs : goal.returns-then-from-stubs
returns-then-from-stubs c =
    brought_at c.args.to c.from-then-from-stubs.result c.args.came c.args.copies c.args.stubs.now c.index-stubs-from.result c.come.new.self c.from-then-from-stubs.ensures
    (omega (arith, c.from.ensures, c.from-then-from-stubs.ensures, c.if-from-stubs.true)) c.come.ensures

pub returns-else-from-stubs : goal.returns-else-from-stubs
returns-else-from-stubs c = brought_none c.args.to c.args.came c.args.copies c.args.stubs.now (omega (arith, c.from.ensures, c.if-from-stubs.false))
