use Rattle.ioa_trees.proofs.EntriesMeant.{slots_if, meant_with_parameters, transition_if}
use Rattle.ioa_trees.proofs.meant.entries_meant_law.Goals as goal

pub returns-clause-slots : goal.returns-clause-slots
returns-clause-slots c = slots_if

pub returns-clause-scope : goal.returns-clause-scope
returns-clause-scope c = meant_with_parameters

pub returns-clause-transition : goal.returns-clause-transition
returns-clause-transition c = transition_if
