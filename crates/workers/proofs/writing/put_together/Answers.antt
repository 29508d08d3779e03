use Rattle.std.proofs.Common.{refl}
use Rattle.group_exchange.specs.Held.{put_all}
use Rattle.task_seed.specs.Setups.{system}
use Rattle.workers.proofs.Portioned.{portioned}
use Rattle.workers.proofs.writing.put_together.Goals as goal

pub returns-clause-portion : goal.returns-clause-portion
returns-clause-portion g c =
    let cut = c.args.cut in
    portioned (system g.T.Turns.turn_of c.args.own.now) cut (put_all c.args.parcel.now) (record { turns = c.put_together.result; first = cut.first; given = cut.given; is_last = cut.is_last }) c.requires c.put_together.ensures.front c.put_together.ensures.turns refl refl refl
