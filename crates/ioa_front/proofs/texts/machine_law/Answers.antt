use Rattle.ioa_phrases.proofs.Sound.{read_formed}
use Rattle.ioa_phrases.proofs.Spelled.{read_spells}
use Rattle.ioa_phrases.proofs.Complete.{read_again}
use Rattle.ioa_front.proofs.texts.machine_law.Goals as goal

pub returns-clause-spelled : goal.returns-clause-spelled
returns-clause-spelled c = read_spells

pub returns-clause-formed : goal.returns-clause-formed
returns-clause-formed c = read_formed

pub returns-clause-read : goal.returns-clause-read
returns-clause-read c = read_again
