use Rattle.trace.proofs.OneStep.{step_line_same, gives_steps_same, gives_no_step_fault, step_fault_same}
use Rattle.trace.proofs.laws.one_step_reading_law.Goals as goal

pub returns-clause-line : goal.returns-clause-line
returns-clause-line c = step_line_same

pub returns-clause-steps : goal.returns-clause-steps
returns-clause-steps c = gives_steps_same

pub returns-clause-apart : goal.returns-clause-apart
returns-clause-apart c = gives_no_step_fault

pub returns-clause-fault : goal.returns-clause-fault
returns-clause-fault c = step_fault_same
