use Rattle.ioa_trees.proofs.Inside.{formal_placed, entry_placed, variable_placed, transition_placed, task_placed}
use Rattle.ioa_trees.proofs.laws.inside_law.Goals as goal

pub returns-clause-formals : goal.returns-clause-formals
returns-clause-formals c = formal_placed

pub returns-clause-entries : goal.returns-clause-entries
returns-clause-entries c = entry_placed

pub returns-clause-variables : goal.returns-clause-variables
returns-clause-variables c = variable_placed

pub returns-clause-transitions : goal.returns-clause-transitions
returns-clause-transitions c = transition_placed

pub returns-clause-tasks : goal.returns-clause-tasks
returns-clause-tasks c = task_placed
