use Rattle.ioa_tokens.proofs.Fits.{seen_fits}
use Rattle.ioa_tokens.proofs.find.front.Goals as goal

pub returns-clause-within : goal.returns-clause-within
returns-clause-within c = seen_fits c.found_at.result c.args.bytes.now c.requires c.found_at.ensures
