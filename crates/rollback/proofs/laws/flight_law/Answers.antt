use Rattle.rollback.proofs.Flights.{times_all, flight_to, flight_not_to, messages_cancelled, antimessages_stay, messages_met, antimessages_met, flight_dropped}
use Rattle.rollback.proofs.laws.flight_law.Goals as goal

pub returns-clause-appended : goal.returns-clause-appended
returns-clause-appended c = times_all

pub returns-clause-to : goal.returns-clause-to
returns-clause-to c = flight_to

pub returns-clause-not_to : goal.returns-clause-not_to
returns-clause-not_to c = flight_not_to

pub returns-clause-messages_cancelled : goal.returns-clause-messages_cancelled
returns-clause-messages_cancelled c = messages_cancelled

pub returns-clause-antimessages_stay : goal.returns-clause-antimessages_stay
returns-clause-antimessages_stay c = antimessages_stay

pub returns-clause-messages_met : goal.returns-clause-messages_met
returns-clause-messages_met c = messages_met

pub returns-clause-antimessages_met : goal.returns-clause-antimessages_met
returns-clause-antimessages_met c = antimessages_met

pub returns-clause-dropped : goal.returns-clause-dropped
returns-clause-dropped c = flight_dropped
