use Rattle.virtual_time.proofs.RingRuns.{straggler_runs, taken_away_runs, again_alike}
use Rattle.virtual_time.proofs.examples.straggler_example.Goals as goal

pub returns-clause-runs : goal.returns-clause-runs
returns-clause-runs c = straggler_runs

pub returns-clause-taken_away : goal.returns-clause-taken_away
returns-clause-taken_away c = taken_away_runs

pub returns-clause-again : goal.returns-clause-again
returns-clause-again c = again_alike
