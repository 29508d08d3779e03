use Rattle.workers.proofs.Held.{held_stays}
use Rattle.workers.proofs.working.share.Goals as goal

pub returns : goal.returns
returns g c =
    let w = c.visit.new.worker in
    (held_stays g.T.Turns.turn_of c.args.shared.now.board w.pass w.lease c.settle.new.self (record { members = c.settle.ensures.same; known = c.settle.ensures.known; window = c.settle.ensures.window }) c.visit.ensures.0, c.visit.ensures.1)
