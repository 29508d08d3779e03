use Rattle.ioa_front.proofs.Found.{found_at}
use Rattle.ioa_front.proofs.reading.place_of.Goals as goal

pub returns-in-Some : goal.returns-in-Some
returns-in-Some c = found_at c.args.end c.args.found.now c.args.left c.saturating_sub.result c.in-Some.token.now c.saturating_sub.ensures c.in-Some.ensures.lookup.3.0 c.in-Some.ensures.lookup.3.1
