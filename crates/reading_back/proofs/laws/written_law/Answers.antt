use Rattle.reading_back.proofs.Rising.{are_turns}
use Rattle.reading_back.proofs.WrittenTurns.{only_turns}
use Rattle.reading_back.proofs.laws.written_law.Goals as goal

pub returns-clause-file : goal.returns-clause-file
returns-clause-file g c =
    let plan = c.args.setup.now.plan in
    λ source is lines turns are.
    let says = c.said_law.ensures.said source plan is in
    c.order_law.ensures.reads lines turns are (c.order_law.ensures.said turns says are)

pub returns-clause-all : goal.returns-clause-all
returns-clause-all g c =
    let plan = c.args.setup.now.plan in
    λ source is turns are.
    let says = c.said_law.ensures.said source plan is in
    c.read_back_law.ensures plan turns (only_turns plan turns (are_turns plan turns (c.turns_are_own.ensures.all turns are) (c.order_law.ensures.said turns says are)))
