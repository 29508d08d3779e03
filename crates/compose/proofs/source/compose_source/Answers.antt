use Rattle.std.proofs.Common.{subst}
use Rattle.ioa_trees.specs.Views.{view_source}
use Rattle.plans.specs.Plans.{action_texts}
use Rattle.compose.specs.Faults.{HasNoFault, IsPlan}
use Rattle.compose.proofs.source.compose_source.Goals as goal

pub returns-in-Ok-compose-clause-composed : goal.returns-in-Ok-compose-clause-composed
returns-in-Ok-compose-clause-composed c = record {
  tree = view_source c.in-Ok.tree;
  read = record { size = c.in-Ok.ensures.size; spelled = c.in-Ok.ensures.spelled; readable = c.in-Ok.ensures.readable };
  faultless = c.in-Ok-check.ensures.faultless;
  composes = subst (HasNoFault (action_texts c.in-Ok-compose.plan)) c.in-Ok-check.ensures.meant c.in-Ok-compose.ensures.faultless;
  meant = subst (λ m. IsPlan m c.in-Ok-compose.plan) c.in-Ok-check.ensures.meant c.in-Ok-compose.ensures.plan;
}
