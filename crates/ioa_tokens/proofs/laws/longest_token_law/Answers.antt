use Rattle.ioa_tokens.proofs.Longest.{longer_goes_on, longer_sign}
use Rattle.ioa_tokens.proofs.laws.longest_token_law.Goals as goal

pub returns : goal.returns
returns c = record { longer = longer_goes_on; signs = longer_sign }
