use Rattle.groups.proofs.Indexed.{stepped_at}
use Rattle.groups.proofs.seating.process_at.Goals as goal

pub returns-clause-done : goal.returns-clause-done
returns-clause-done g c =
    stepped_at g.T.Turns.turn_of c.args.components.now c.args.place c.index-components-place.result c.args.sent.now c.process.new.out c.process.new.self c.process.result c.process.ensures.record c.process.ensures.sent
