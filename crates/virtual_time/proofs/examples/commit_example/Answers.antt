use Rattle.virtual_time.proofs.RingRuns.{ahead_runs, accepted_runs, refused_runs, again_runs}
use Rattle.virtual_time.proofs.examples.commit_example.Goals as goal

pub returns-clause-ahead : goal.returns-clause-ahead
returns-clause-ahead c = ahead_runs

pub returns-clause-accepted : goal.returns-clause-accepted
returns-clause-accepted c = accepted_runs

pub returns-clause-refused : goal.returns-clause-refused
returns-clause-refused c = refused_runs

pub returns-clause-again : goal.returns-clause-again
returns-clause-again c = again_runs
