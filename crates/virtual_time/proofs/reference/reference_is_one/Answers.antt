use Rattle.virtual_time.proofs.Prefix.{reference_begins, reference_one}
use Rattle.virtual_time.proofs.reference.reference_is_one.Goals as goal

pub returns-clause-begins : goal.returns-clause-begins
returns-clause-begins g c machine b d ts us l p q = reference_begins machine b d ts us l p q

pub returns-clause-same : goal.returns-clause-same
returns-clause-same g c machine b ts us p q = reference_one machine b ts us p q
