use Rattle.ioa_phrases.proofs.Viable.{deep_begins}
use Rattle.ioa_phrases.proofs.Refused.{deep_ends}
use Rattle.ioa_front.proofs.texts.depth_law.Goals as goal

pub returns-clause-begins : goal.returns-clause-begins
returns-clause-begins c pre rest t h = deep_begins pre t rest h

pub returns-clause-ends : goal.returns-clause-ends
returns-clause-ends c pre rest other t h = deep_ends pre rest other t h
