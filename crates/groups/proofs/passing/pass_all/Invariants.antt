use Rattle.groups.specs.Open.{IsPassed, depth_of}
use Rattle.groups.proofs.passing.pass_all.Given as goal

abbrev pub invariant-loop : goal.invariant-loop
invariant-loop g l = IsPassed g.T.Turns.turn_of l.initial.members l.members l.initial.sent l.sent l.initial.out l.out

abbrev pub decreases-loop : goal.decreases-loop
decreases-loop g l = depth_of l.members.components
