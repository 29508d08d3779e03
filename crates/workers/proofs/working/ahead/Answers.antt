use Rattle.workers.proofs.Held.{held_stays}
use Rattle.workers.proofs.working.ahead.Goals as goal

pub returns-then-eq : goal.returns-then-eq
returns-then-eq g c =
    let w = c.args.worker.now in
    (held_stays g.T.Turns.turn_of c.args.shared.now.board w.pass w.lease c.ahead-ran.new.lease c.ahead-ran.ensures.same c.requires.0, c.requires.1)

pub returns : goal.returns
returns g c =
    let w = c.args.worker.now in
    (held_stays g.T.Turns.turn_of c.args.shared.now.board w.pass w.lease c.ahead-ran.new.lease c.ahead-ran.ensures.same c.requires.0, c.requires.1)
