use Rattle.ioa_trees.proofs.Held.{same_placed, member_placed, parameter_placed, start_placed, pre_placed, eff_placed, argument_placed}
use Rattle.ioa_trees.proofs.laws.part_law.Goals as goal

pub returns-clause-same : goal.returns-clause-same
returns-clause-same c = same_placed

pub returns-clause-members : goal.returns-clause-members
returns-clause-members c = member_placed

pub returns-clause-parameters : goal.returns-clause-parameters
returns-clause-parameters c = parameter_placed

pub returns-clause-starts : goal.returns-clause-starts
returns-clause-starts c = start_placed

pub returns-clause-preconditions : goal.returns-clause-preconditions
returns-clause-preconditions c = pre_placed

pub returns-clause-effects : goal.returns-clause-effects
returns-clause-effects c = eff_placed

pub returns-clause-arguments : goal.returns-clause-arguments
returns-clause-arguments c = argument_placed
