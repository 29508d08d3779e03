use Rattle.reading_back.proofs.SaidSources.{composed_says}
use Rattle.reading_back.proofs.laws.said_law.Goals as goal

pub returns : goal.returns
returns c = record { said = λ source plan is. composed_says c.size_law.ensures.all c.sources_meant_law.ensures.meant c.formed_law.ensures source plan is }
