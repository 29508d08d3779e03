use Rattle.virtual_time.proofs.RingRuns.{whole_runs}
use Rattle.virtual_time.proofs.examples.whole_example.Goals as goal

pub returns-clause-runs : goal.returns-clause-runs
returns-clause-runs c = whole_runs
