use Rattle.std.proofs.Common.{arith}
use Rattle.gvt.proofs.Steps.{loads}
use Rattle.gvt.proofs.word.Published.read.Goals as goal

pub load-requires : goal.load-requires
load-requires c = (c.requires, omega arith, loads _ _ _)
