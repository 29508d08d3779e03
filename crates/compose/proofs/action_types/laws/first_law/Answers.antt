use Rattle.compose.proofs.LeastDifference.{first_law}
use Rattle.compose.proofs.action_types.laws.first_law.Goals as goal

pub returns : goal.returns
returns c = first_law
