use Rattle.ioa_tokens.proofs.Ascii.{word_is_text}
use Rattle.ioa_tokens.proofs.find.text.Goals as goal

pub returns-in-Err : goal.returns-in-Err
returns-in-Err c = absurd (c.in-Err.ensures.cases.0 (word_is_text c.args.bytes.now c.requires))
