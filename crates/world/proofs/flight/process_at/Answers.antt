use Rattle.world.proofs.Indexing.{nothing_at, stepped_at}
use Rattle.world.proofs.flight.process_at.Goals as goal

pub returns-clause-done : goal.returns-clause-done
returns-clause-done g c =
    stepped_at g.T.Turns.turn_of c.args.components.now c.args.i c.from.result c.from.ensures c.index-components-from.result c.args.flight.now c.process.new.out c.process.new.self c.process.result c.process.ensures.record c.process.ensures.sent

pub returns-clause-nothing : goal.returns-clause-nothing
returns-clause-nothing g c =
    nothing_at g.T.Turns.turn_of c.args.components.now c.args.i c.from.result c.from.ensures c.index-components-from.result c.process.result c.process.ensures.nothing
