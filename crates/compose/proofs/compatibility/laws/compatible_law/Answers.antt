use Rattle.compose.proofs.FirstClashes.{compatible_by, unbroken_by}
use Rattle.compose.proofs.compatibility.laws.compatible_law.Goals as goal

pub returns-clause-compatible : goal.returns-clause-compatible
returns-clause-compatible c = compatible_by

pub returns-clause-unbroken : goal.returns-clause-unbroken
returns-clause-unbroken c = unbroken_by
