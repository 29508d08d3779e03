use Rattle.rollback.proofs.Leaving.{bags_same, flight_found, flight_pair, flight_removed}
use Rattle.rollback.proofs.laws.leaving_law.Goals as goal

pub returns-clause-removed : goal.returns-clause-removed
returns-clause-removed c = flight_removed

pub returns-clause-found : goal.returns-clause-found
returns-clause-found c = flight_found

pub returns-clause-pair : goal.returns-clause-pair
returns-clause-pair c = flight_pair

pub returns-clause-one : goal.returns-clause-one
returns-clause-one c = λ s xs ys o p same. bags_same s xs ys o p same c.counts_law.ensures
