use Rattle.antimessage.proofs.Placed.{count_all, sorted_all}
use Rattle.antimessage.proofs.laws.append_law.Goals as goal

pub returns-clause-counts : goal.returns-clause-counts
returns-clause-counts c = count_all

pub returns-clause-sorted : goal.returns-clause-sorted
returns-clause-sorted c = sorted_all
