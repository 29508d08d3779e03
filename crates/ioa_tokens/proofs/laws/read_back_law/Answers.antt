use Rattle.ioa_tokens.proofs.Layouts.{layout_is_ascii, layout_is_spelled, read_back}
use Rattle.ioa_tokens.proofs.laws.read_back_law.Goals as goal

pub returns : goal.returns
returns c = record { ascii = layout_is_ascii; spelled = layout_is_spelled; same = read_back }
