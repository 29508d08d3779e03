use Rattle.groups.proofs.Moved.{ahead_moves}
use Rattle.groups.proofs.group.Group.run_ahead.Goals as goal

pub returns-clause-moves : goal.returns-clause-moves
returns-clause-moves g c = ahead_moves g.T.Turns.turn_of c.args.self.now c.run_some.new.self c.run_some.result.count c.run_some.ensures.ahead
