use Rattle.commands.proofs.BadLines.{no_bad_line}
use Rattle.commands.proofs.laws.table_law.Goals as goal

pub returns : goal.returns
returns c = no_bad_line
