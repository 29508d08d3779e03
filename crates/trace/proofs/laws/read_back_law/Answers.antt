use Rattle.trace.proofs.ReadBack.{read_back}
use Rattle.trace.proofs.laws.read_back_law.Goals as goal

pub returns : goal.returns
returns c = read_back
