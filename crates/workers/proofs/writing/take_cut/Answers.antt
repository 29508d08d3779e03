use Rattle.group_exchange.specs.Held.{put_all}
use Rattle.task_seed.specs.Setups.{system}
use Rattle.workers.proofs.Portioned.{cut_off}
use Rattle.workers.proofs.writing.take_cut.Goals as goal

pub returns-clause-cut : goal.returns-clause-cut
returns-clause-cut g c =
    let e = c.args.exchange.now in
    let taken = c.take_parcel-first in
    let chunk = taken.ensures.chunk in
    cut_off (system g.T.Turns.turn_of e.setup) e taken.new.self c.soundness_law.ensures.shared (record { first = taken.result; given = c.given-given.result; is_last = c.finished-is_last.result }) (put_all taken.new.parcel)
    taken.ensures.first c.given-given.ensures c.finished-is_last.ensures chunk.0 chunk.1 chunk.2
