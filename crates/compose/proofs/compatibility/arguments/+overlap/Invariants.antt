use Rattle.std.proofs.Common.{length}
use Rattle.compose.proofs.compatibility.arguments.+overlap.Given as goal

abbrev pub decreases-overlap : goal.decreases-overlap
decreases-overlap l = length l.params.now
