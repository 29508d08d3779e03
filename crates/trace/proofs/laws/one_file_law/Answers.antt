use Rattle.trace.proofs.OneVersion.{any_lines_give, fault_of_file_same, file_same, no_fault_of_file}
use Rattle.trace.proofs.laws.one_file_law.Goals as goal

pub returns-clause-actions : goal.returns-clause-actions
returns-clause-actions c = file_same

pub returns-clause-apart : goal.returns-clause-apart
returns-clause-apart c = no_fault_of_file

pub returns-clause-fault : goal.returns-clause-fault
returns-clause-fault c = fault_of_file_same

pub returns-clause-any_order : goal.returns-clause-any_order
returns-clause-any_order c = any_lines_give
