use Rattle.workers.proofs.Written.{begun, starts}
use Rattle.std.proofs.Common.{arith}
use Rattle.workers.proofs.running.run_on.Goals as goal

pub returns-in-Err-clause-unfinished : goal.returns-in-Err-clause-unfinished
returns-in-Err-clause-unfinished g c = begun c.requires.known (starts c.args.out.now c.args.before (omega arith))
