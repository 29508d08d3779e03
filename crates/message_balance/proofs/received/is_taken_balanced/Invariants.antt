use Rattle.std.proofs.Common.{◌≡◌, ◌==◌}
use Rattle.message_balance.specs.Balance.{count_arrivals, count_places}
use Rattle.message_balance.proofs.received.is_taken_balanced.Given as goal

abbrev pub invariant-loop-places : goal.invariant-loop-places
invariant-loop-places l = (count_arrivals l.message l.arrivals == count_places l.message l.places) ≡ (count_arrivals l.message l.initial.arrivals == count_places l.message l.initial.places)

abbrev pub decreases-loop-places : goal.decreases-loop-places
decreases-loop-places l = count_arrivals l.message l.arrivals
