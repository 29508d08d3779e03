use Rattle.groups.proofs.Indexed.{come_at, count_at, quiet_at}
use Rattle.groups.proofs.seating.deliver_at.Goals as goal

pub returns-clause-done : goal.returns-clause-done
returns-clause-done g c =
    come_at g.T.Turns.turn_of c.args.components.now c.args.place c.index-components-place.result c.args.cell c.args.sent.now c.deliver-count.new.out c.deliver-count.new.self c.deliver-count.ensures.record c.deliver-count.ensures.sent

pub returns-clause-count : goal.returns-clause-count
returns-clause-count g c = count_at g.T.Turns.turn_of c.args.components.now c.args.place c.index-components-place.result c.args.cell c.deliver-count.result c.deliver-count.ensures.count

pub returns-clause-quiet : goal.returns-clause-quiet
returns-clause-quiet g c = λ none.
    quiet_at g.T.Turns.turn_of c.args.components.now c.args.place c.index-components-place.result c.args.cell c.args.sent.now c.deliver-count.new.out c.deliver-count.result c.leaving_law.ensures.one c.order_law.ensures c.order_law-2.ensures c.deliver-count.ensures.count c.deliver-count.ensures.sent none
