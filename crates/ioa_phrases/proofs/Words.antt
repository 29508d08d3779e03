-- Tests of a token.
use Rattle.std.proofs.Common.{rules, ◌≡◌, true, ap}
use denote.Enum.Bare.{same_true}
use Rattle.ioa_tokens.specs.contracts.Word.{the_type}
use Rattle.ioa_tokens.specs.declared.Word.{Word}
use Rattle.ioa_tokens.specs.Tokens.{Tok, Name, Num, Key, is, same_word}

pub word_is : (v u : Word) → same_word v u ≡ true → v ≡ u
word_is v u h = same_true the_type (search rules) v u h

-- a token that is this word
pub is_key : (u : Word) (t : Tok) → is u t ≡ true → t ≡ Key u
is_key u (Key v) h = ap Key (word_is v u h)
is_key u (Name s) h = cc
is_key u (Num n) h = cc
