use Rattle.std.proofs.Common.{◌≤◌, Option, subst, sym}
use Rattle.event_keys.specs.Ranks.{rank}
use Rattle.event_keys.specs.declared.key.Key.{Key}
use Rattle.reference.specs.Queues.{rank_or_end}
use Rattle.task_seed.specs.Machines.{end_rank}
use Rattle.sure_groups.proofs.Written.{below_end}
use Rattle.sure_groups.proofs.giving.check_end.Goals as goal

pub returns-in-Some : goal.returns-in-Some
returns-in-Some c = subst (λ (o : Option Key). rank_or_end o ≤ end_rank) (sym c.in-Some.is) (below_end (rank c.in-Some.key) c.rank_law.ensures.below)
