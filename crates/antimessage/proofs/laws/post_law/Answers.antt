use Rattle.antimessage.proofs.Effects.{post_more, post_others}
use Rattle.antimessage.proofs.laws.post_law.Goals as goal

pub returns-clause-more : goal.returns-clause-more
returns-clause-more c = post_more

pub returns-clause-others : goal.returns-clause-others
returns-clause-others c = post_others
