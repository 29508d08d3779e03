use Rattle.ioa_trees.proofs.Least.{kept_least, kept_none}
use Rattle.ioa_trees.proofs.laws.least_law.Goals as goal

pub returns-clause-least : goal.returns-clause-least
returns-clause-least c = kept_least

pub returns-clause-none : goal.returns-clause-none
returns-clause-none c = kept_none
