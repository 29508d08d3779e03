use Rattle.ioa_phrases.proofs.Faults.{first_deep, refuses, first_syntax}
use Rattle.ioa_front.proofs.texts.first_fault_law.Goals as goal

pub returns-clause-deep : goal.returns-clause-deep
returns-clause-deep c pre rest more t m h is y = first_deep pre rest more t m h is y

pub returns-clause-refused : goal.returns-clause-refused
returns-clause-refused c pre rest more t m before after d is y e s w o = refuses pre rest more t m before after d is y e s w o

pub returns-clause-syntax : goal.returns-clause-syntax
returns-clause-syntax c pre ts more m h is y = first_syntax pre ts more m h is y
