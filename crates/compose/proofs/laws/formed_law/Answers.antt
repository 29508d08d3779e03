use Rattle.compose.proofs.Formed.{well_formed}
use Rattle.compose.proofs.laws.formed_law.Goals as goal

pub returns : goal.returns
returns c = well_formed
