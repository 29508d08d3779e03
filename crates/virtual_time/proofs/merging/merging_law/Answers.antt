use Rattle.virtual_time.proofs.Exchange.Merging.{merged_falls, merged_outcomes}
use Rattle.virtual_time.proofs.merging.merging_law.Goals as goal

pub returns-clause-falls : goal.returns-clause-falls
returns-clause-falls g c turns held f h apart = merged_falls turns held f h apart

pub returns-clause-outcomes : goal.returns-clause-outcomes
returns-clause-outcomes g c turns held f h apart k = merged_outcomes turns held f h apart k
