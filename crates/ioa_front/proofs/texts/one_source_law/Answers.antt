use Rattle.ioa_phrases.proofs.Once.{one_source}
use Rattle.ioa_front.proofs.texts.one_source_law.Goals as goal

pub returns : goal.returns
returns c = one_source
