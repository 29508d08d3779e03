use Rattle.ioa_phrases.proofs.Complete.{one_tree}
use Rattle.ioa_front.proofs.texts.one_tree_law.Goals as goal

pub returns : goal.returns
returns c = one_tree
