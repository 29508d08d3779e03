use Rattle.std.proofs.Common.{length}
use Rattle.trace.proofs.known.+are_of.Given as goal

abbrev pub decreases-are_of : goal.decreases-are_of
decreases-are_of l = length l.shapes.now
