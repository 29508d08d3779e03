use Rattle.std.proofs.Common.{subst}
use Rattle.hunt.specs.Hunts.{IsPart}
use Rattle.hunt.proofs.find.merged.Goals as goal

pub returns-in-Nothing : goal.returns-in-Nothing
returns-in-Nothing c h from middle end above below low high = c.after_none.ensures h from middle end above below (subst (IsPart h from middle) c.in-Nothing.is low) high

pub returns-in-Counted : goal.returns-in-Counted
returns-in-Counted c h from middle end above below low high = c.sum.ensures h from middle end above below (subst (IsPart h from middle) c.in-Counted.is low) high
