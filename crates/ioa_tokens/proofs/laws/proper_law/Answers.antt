use Rattle.ioa_tokens.proofs.Proper.{read_proper, both_proper, parts_are_proper}
use Rattle.ioa_tokens.proofs.laws.proper_law.Goals as goal

pub returns : goal.returns
returns c = record { read = read_proper; together = both_proper; apart = parts_are_proper }
