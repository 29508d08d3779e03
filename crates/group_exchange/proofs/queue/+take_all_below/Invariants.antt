use Rattle.std.specs.Prelude.{length}
use Rattle.group_exchange.proofs.queue.+take_all_below.Given as goal

abbrev pub decreases-take_all_below : goal.decreases-take_all_below
decreases-take_all_below l = length l.queues.now
