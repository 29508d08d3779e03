use Rattle.std.proofs.Common.{◌-◌}
use Rattle.groups.proofs.Played.{IsPlayed}
use Rattle.groups.proofs.seats.put.Given as goal

abbrev pub invariant-loop-at : goal.invariant-loop-at
invariant-loop-at l = IsPlayed l.count l.index l.fn.seat l.fn.nodes l.at l.nodes

abbrev pub decreases-loop-at : goal.decreases-loop-at
decreases-loop-at l = l.at - 1
