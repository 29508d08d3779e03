use Rattle.compose.proofs.Fronts.{composed_whole, refused_whole}
use Rattle.compose.proofs.source_laws.front_law.Goals as goal

pub returns-clause-composed : goal.returns-clause-composed
returns-clause-composed c = composed_whole

pub returns-clause-refused : goal.returns-clause-refused
returns-clause-refused c = refused_whole
