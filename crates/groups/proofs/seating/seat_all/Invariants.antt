use Rattle.groups.specs.Crew.{AreSeatedTo}
use Rattle.groups.proofs.seating.seat_all.Given as goal

abbrev pub invariant-loop-place : goal.invariant-loop-place
invariant-loop-place g l = AreSeatedTo g.T.Turns.turn_of l.components l.place l.seats
