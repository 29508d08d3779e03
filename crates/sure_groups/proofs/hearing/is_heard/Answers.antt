use Rattle.std.proofs.Common.{◌<◌, ◌∙◌, subst, sym, Option}
use Rattle.event_keys.specs.Ranks.{rank}
use Rattle.event_keys.specs.declared.key.Key.{Key}
use Rattle.reference.specs.Queues.{rank_or_end}
use Rattle.sure_groups.proofs.Coming.{below_end}
use Rattle.sure_groups.proofs.hearing.is_heard.Goals as goal

pub returns-in-None-clause-heard : goal.returns-in-None-clause-heard
returns-in-None-clause-heard c _ = subst (λ (o : Option Key). rank c.args.wait.last < rank_or_end o) (sym c.in-None.is ∙ c.heard_of.ensures) (below_end (rank c.args.wait.last) c.rank_law.ensures.below)
