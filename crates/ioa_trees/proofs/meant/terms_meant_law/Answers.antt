use Rattle.ioa_trees.proofs.TermsMeant.{judged_if, faultless}
use Rattle.ioa_trees.proofs.meant.terms_meant_law.Goals as goal

pub returns-clause-meant : goal.returns-clause-meant
returns-clause-meant c = judged_if

pub returns-clause-faultless : goal.returns-clause-faultless
returns-clause-faultless c = faultless
