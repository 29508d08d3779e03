use Rattle.antimessage.proofs.Effects.{least_is}
use Rattle.antimessage.proofs.laws.least_law.Goals as goal

pub returns : goal.returns
returns c = least_is
