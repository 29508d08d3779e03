use Rattle.std.proofs.Common.{length}
use Rattle.outcomes.proofs.tuples.+put_tuple.Given as goal

abbrev pub decreases-put_tuple : goal.decreases-put_tuple
decreases-put_tuple l = length l.params.now
