use Rattle.ioa_trees.proofs.EffectsMeant.{meant_in_loop, effects_if}
use Rattle.ioa_trees.proofs.meant.effects_meant_law.Goals as goal

pub returns-clause-scope : goal.returns-clause-scope
returns-clause-scope c = meant_in_loop

pub returns-clause-meant : goal.returns-clause-meant
returns-clause-meant c = effects_if
