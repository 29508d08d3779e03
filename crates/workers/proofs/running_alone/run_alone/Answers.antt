use Rattle.std.proofs.Common.{arith}
use Rattle.workers.proofs.Written.{begun, starts}
use Rattle.workers.proofs.running_alone.run_alone.Goals as goal

pub returns-in-Err-clause-unfinished : goal.returns-in-Err-clause-unfinished
returns-in-Err-clause-unfinished g c = begun c.requires.known (starts c.args.out.now c.args.page.before (omega arith))
