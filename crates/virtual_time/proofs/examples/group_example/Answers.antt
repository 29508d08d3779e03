use Rattle.std.proofs.Common.{refl, arith}
use Rattle.virtual_time.specs.Bags.{hit}
use Rattle.virtual_time.proofs.examples.group_example.Goals as goal

pub returns-clause-steps : goal.returns-clause-steps
unfolding hit
returns-clause-steps c = (refl, (refl, (refl, (refl, omega arith, refl))))
