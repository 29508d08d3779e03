use Rattle.std.proofs.Common.{ap, not}
use Rattle.antimessage.specs.Bags.{is_below}
use Rattle.antimessage.proofs.Below.{count_kept, count_dropped}
use Rattle.antimessage.proofs.laws.drop_below_law.Goals as goal

pub returns-clause-kept : goal.returns-clause-kept
returns-clause-kept c bound x bag e = count_kept (λ s. not (is_below bound s)) x bag (ap not e)

pub returns-clause-dropped : goal.returns-clause-dropped
returns-clause-dropped c bound x bag e = count_dropped (λ s. not (is_below bound s)) x bag (ap not e)
