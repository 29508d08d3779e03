use Rattle.virtual_time.proofs.RingRuns.{lawful, counted}
use Rattle.virtual_time.proofs.examples.ring_is_lawful.Goals as goal

pub returns-clause-lawful : goal.returns-clause-lawful
returns-clause-lawful c = lawful

pub returns-clause-counted : goal.returns-clause-counted
returns-clause-counted c = counted
