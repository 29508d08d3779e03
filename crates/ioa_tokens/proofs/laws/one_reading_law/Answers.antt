use Rattle.ioa_tokens.proofs.Cuts.{tokens_or_place, tokens_once, tokens_or_bad, bad_once}
use Rattle.ioa_tokens.proofs.Ascii.{wide_or_ascii, ascii_or_wide, wide_once}
use Rattle.ioa_tokens.proofs.laws.one_reading_law.Goals as goal

pub returns : goal.returns
returns c = record { reading = tokens_or_place; bytes = wide_or_ascii; tokens = tokens_once; apart = tokens_or_bad; bad = bad_once; ascii = ascii_or_wide; wide = wide_once }
