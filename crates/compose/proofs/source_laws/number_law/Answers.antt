use Rattle.compose.proofs.Numbered.{numbered}
use Rattle.compose.proofs.source_laws.number_law.Goals as goal

pub returns : goal.returns
returns c = numbered
