use Rattle.std.proofs.Common.{◌-◌}
use Rattle.gvt.proofs.Played.{IsPlayed}
use Rattle.gvt.proofs.tournament.put.Given as goal

abbrev pub invariant-loop-at : goal.invariant-loop-at
invariant-loop-at l = IsPlayed l.count l.index l.number l.fn.nodes l.at l.nodes

abbrev pub decreases-loop-at : goal.decreases-loop-at
decreases-loop-at l = l.at - 1
