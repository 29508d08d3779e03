use Rattle.std.proofs.Common.{◌∙◌}
use Rattle.ioa_check.proofs.Sets.{found_in}
use Rattle.ioa_check.proofs.used.Used.contains.Goals as goal

pub returns : goal.returns
returns c = c.contains.ensures ∙ found_in c.args.name.now c.args.self.now.names.keys
