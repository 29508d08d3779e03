use Rattle.ioa_phrases.proofs.Places.{counts}
use Rattle.ioa_phrases.proofs.Faults.{within, kept, freed}
use Rattle.ioa_front.proofs.texts.limit_law.Goals as goal

pub returns-clause-each : goal.returns-clause-each
returns-clause-each c = counts

pub returns-clause-within : goal.returns-clause-within
returns-clause-within c = within

pub returns-clause-kept : goal.returns-clause-kept
returns-clause-kept c = kept

pub returns-clause-free : goal.returns-clause-free
returns-clause-free c n h = freed h
