use Rattle.std.proofs.Common.{◌+◌, ◌*◌}
use Rattle.hunt.proofs.sharing.+shares.Given as goal

abbrev pub decreases-share : goal.decreases-share
decreases-share g l = 2 * l.workers

abbrev pub decreases-front : goal.decreases-front
decreases-front g l = 2 * l.low + 1

abbrev pub decreases-back : goal.decreases-back
decreases-back g l = 2 * l.high + 1
