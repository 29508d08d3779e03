use Rattle.std.proofs.Common.{◌-◌}
use Rattle.world.proofs.commit.+drop_between.Given as goal

abbrev pub decreases-drop_between : goal.decreases-drop_between
decreases-drop_between g l = l.to - l.from
