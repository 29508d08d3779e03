use Rattle.group_exchange.proofs.Copied.{both_copied}
use Rattle.group_exchange.proofs.matching.together.Goals as goal

pub returns : goal.returns
returns c = both_copied c.flight_law.ensures.appended c.args.one.now c.args.other.now c.in_ok-both.both c.in_ok-more.more c.append.new.self c.in_ok-both.ensures c.in_ok-more.ensures c.append.ensures.all
