use Rattle.std.proofs.Common.{arith}
use Rattle.gvt.proofs.Steps.{raises}
use Rattle.gvt.proofs.word.Published.publish.Goals as goal

pub fetch_max-requires : goal.fetch_max-requires
fetch_max-requires c = (c.requires, omega arith, raises _ _ _ _)
