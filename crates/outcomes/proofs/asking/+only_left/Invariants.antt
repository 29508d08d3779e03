use Rattle.std.proofs.Common.{length}
use Rattle.outcomes.proofs.asking.+only_left.Given as goal

abbrev pub decreases-only_left : goal.decreases-only_left
decreases-only_left l = length l.left.now
