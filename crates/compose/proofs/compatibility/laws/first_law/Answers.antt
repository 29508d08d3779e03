use Rattle.compose.proofs.FirstClashes.{first_breaks}
use Rattle.compose.proofs.compatibility.laws.first_law.Goals as goal

pub returns : goal.returns
returns c = first_breaks
