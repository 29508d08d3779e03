use Rattle.trace.proofs.OneFile.{gives_same, gives_no_fault, fault_same}
use Rattle.trace.proofs.OneLine.{line_same}
use Rattle.trace.proofs.laws.one_reading_law.Goals as goal

pub returns-clause-line : goal.returns-clause-line
returns-clause-line c = line_same

pub returns-clause-actions : goal.returns-clause-actions
returns-clause-actions c = gives_same

pub returns-clause-apart : goal.returns-clause-apart
returns-clause-apart c = gives_no_fault

pub returns-clause-fault : goal.returns-clause-fault
returns-clause-fault c = fault_same
