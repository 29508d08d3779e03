use Rattle.hunt.specs.Seeds.{hunted}
use Rattle.hunt.proofs.sharing.+shares.Goals as goal

pub returns-clause-are : goal.returns-clause-are
returns-clause-are g t c = c.joined.ensures.are (hunted c.args.source.now c.args.action.now c.args.course) c.join-front.ensures.first.0 c.join-front.ensures.second.0

pub returns-clause-err : goal.returns-clause-err
returns-clause-err g t c = c.joined.ensures.err (hunted c.args.source.now c.args.action.now c.args.course) c.join-front.ensures.first.1 c.join-front.ensures.second.1
