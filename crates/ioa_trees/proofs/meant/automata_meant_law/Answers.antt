use Rattle.ioa_trees.proofs.AutomataMeant.{automaton_if}
use Rattle.ioa_trees.proofs.meant.automata_meant_law.Goals as goal

pub returns : goal.returns
returns c = record { meant = automaton_if }
