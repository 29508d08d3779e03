use Rattle.ioa_trees.proofs.Held.{hidden_placed}
use Rattle.ioa_trees.proofs.Placed.{definition_placed, automaton_placed, component_placed}
use Rattle.ioa_trees.proofs.laws.place_law.Goals as goal

pub returns-clause-definitions : goal.returns-clause-definitions
returns-clause-definitions c = definition_placed

pub returns-clause-automata : goal.returns-clause-automata
returns-clause-automata c = automaton_placed

pub returns-clause-components : goal.returns-clause-components
returns-clause-components c = component_placed

pub returns-clause-hidden : goal.returns-clause-hidden
returns-clause-hidden c = hidden_placed
