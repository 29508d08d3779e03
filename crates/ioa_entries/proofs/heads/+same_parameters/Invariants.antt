use Rattle.std.proofs.Common.{length}
use Rattle.ioa_entries.proofs.heads.+same_parameters.Given as goal

abbrev pub decreases-same_parameters : goal.decreases-same_parameters
decreases-same_parameters l = length l.a.now
