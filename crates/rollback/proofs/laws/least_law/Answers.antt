use Rattle.rollback.proofs.Lowest.{flight_low, flight_most}
use Rattle.rollback.proofs.laws.least_law.Goals as goal

pub returns-clause-low : goal.returns-clause-low
returns-clause-low c = flight_low

pub returns-clause-most : goal.returns-clause-most
returns-clause-most c = flight_most
