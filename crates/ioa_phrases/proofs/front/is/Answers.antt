use Rattle.std.proofs.Common.{sym, ◌∙◌, ap}
use Rattle.ioa_tokens.specs.Tokens.{Key, tok_of}
use Rattle.ioa_phrases.proofs.Words.{word_is}
use Rattle.ioa_phrases.proofs.front.is.Goals as goal

pub returns-in-Word-clause-key : goal.returns-in-Word-clause-key
returns-in-Word-clause-key c = λ h. ap tok_of c.in-Word.is ∙ ap Key (word_is _ _ (sym c.same_word.ensures ∙ h))
