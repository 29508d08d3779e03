use Rattle.std.proofs.Common.{rules, ◌≡◌}
use Rattle.world.proofs.Indexing.{come_at, count_at}
use Rattle.world.proofs.flight.deliver_at.Goals as goal

pub returns-clause-done : goal.returns-clause-done
returns-clause-done g c =
    let at : c.from-to.result ≡ c.args.cell.message.to = search rules in
    come_at g.T.Turns.turn_of c.args.components.now c.args.cell.message.to c.from-to.result at c.index-components-to.result c.args.cell c.args.flight.now c.deliver.new.out c.deliver.new.self c.deliver.ensures.record c.deliver.ensures.sent

pub returns-clause-count : goal.returns-clause-count
returns-clause-count g c =
    let at : c.from-to.result ≡ c.args.cell.message.to = search rules in
    count_at g.T.Turns.turn_of c.args.components.now c.args.cell.message.to c.from-to.result at c.index-components-to.result c.args.cell c.deliver.result c.deliver.ensures.count
