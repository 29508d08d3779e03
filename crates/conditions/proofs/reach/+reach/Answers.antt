use Rattle.std.proofs.Common.{◌∙◌}
use Rattle.conditions.specs.Reach.{reach_by}
use Rattle.conditions.proofs.reach.+reach.Goals as goal

pub reach_of-returns : goal.reach_of-returns
reach_of-returns t c =
    c.highest.ensures
    ∙ reach_by c.args.term.now c.as_slice.result.now c.in_ok-first.first c.in_ok-links.links c.as_slice.ensures.value c.in_ok-first.ensures c.in_ok-links.ensures
