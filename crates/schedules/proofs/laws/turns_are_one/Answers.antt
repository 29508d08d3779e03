use Rattle.std.proofs.Common.{sym, ◌∙◌}
use Rattle.schedules.proofs.Told.{told}
use Rattle.schedules.proofs.laws.turns_are_one.Goals as goal

pub returns : goal.returns
returns c plan s turns others a b = told turns others a.keys b.keys (a.all ∙ sym b.all)
