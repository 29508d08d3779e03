use Rattle.std.proofs.Common.{◌∙◌}
use Rattle.world.proofs.Comparing.{before_same}
use Rattle.world.proofs.same.have_same_turns.Goals as goal

pub returns : goal.returns
returns c = c.eq.ensures ∙ before_same c.args.turns.now c.args.others.now c.requires.no_more c.requires.no_others
