use Rattle.std.proofs.Common.{true}
use Rattle.ioa_phrases.proofs.Viable.{begins}
use Rattle.ioa_phrases.proofs.Refused.{ends, short}
use Rattle.ioa_front.proofs.texts.syntax_law.Goals as goal

pub returns-clause-begins : goal.returns-clause-begins
returns-clause-begins c pre ts h = begins true pre ts h

pub returns-clause-ends : goal.returns-clause-ends
returns-clause-ends c pre rest other t h = ends pre rest other t h

pub returns-clause-short : goal.returns-clause-short
returns-clause-short c ts n h = short ts n h
