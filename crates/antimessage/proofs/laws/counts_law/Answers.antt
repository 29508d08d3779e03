use Rattle.antimessage.proofs.Counting.{same_counts}
use Rattle.antimessage.proofs.laws.counts_law.Goals as goal

pub returns : goal.returns
returns c = same_counts
