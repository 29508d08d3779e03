use Rattle.antimessage.proofs.Counting.{counted_none}
use Rattle.antimessage.specs.Counts.{is_same}
use Rattle.antimessage.proofs.Pairs.{taken_is}
use Rattle.antimessage.proofs.laws.take_equal_law.Goals as goal

pub returns-clause-same : goal.returns-clause-same
returns-clause-same c = taken_is

pub returns-clause-none : goal.returns-clause-none
returns-clause-none c = counted_none is_same
