use Rattle.virtual_time.proofs.RingRuns.{met_runs, delivered_runs, delivered_like, once_pending, once_alike}
use Rattle.virtual_time.proofs.examples.inverse_example.Goals as goal

pub returns-clause-met : goal.returns-clause-met
returns-clause-met c = met_runs

pub returns-clause-delivered : goal.returns-clause-delivered
returns-clause-delivered c = delivered_runs

pub returns-clause-delivered_start : goal.returns-clause-delivered_start
returns-clause-delivered_start c = delivered_like

pub returns-clause-once : goal.returns-clause-once
returns-clause-once c = once_pending

pub returns-clause-once_like : goal.returns-clause-once_like
returns-clause-once_like c = once_alike
