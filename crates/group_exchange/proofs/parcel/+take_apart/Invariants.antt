use Rattle.std.specs.Prelude.{length}
use Rattle.group_exchange.proofs.parcel.+take_apart.Given as goal

abbrev pub decreases-take_apart : goal.decreases-take_apart
decreases-take_apart l = length l.queues.now
