use Rattle.std.proofs.Common.{rules, subst}
use Rattle.hunt.specs.Hunts.{IsPart}
use Rattle.hunt.proofs.Parts.{counts_joined}
use Rattle.hunt.proofs.find.sum.Goals as goal

pub returns-in-Some : goal.returns-in-Some
returns-in-Some c h from middle end above below low high = counts_joined h from middle end c.args.low c.in-Counted.high c.in-Some.count above below (search rules) low (subst (IsPart h middle end) c.in-Counted.is high)
