-- Tokens without where they lie in memory.
use Rattle.std.specs.Prelude.{ℕ, Bool, false, List, [], ◌∷◌, map}
use denote.Enum.Bare.{sameb}
use Rattle.ioa_tokens.specs.contracts.word.Word.{the_type}
use Rattle.ioa_tokens.specs.declared.word.Word.{Word}
use Rattle.ioa_tokens.specs.declared.token.Kind.{Kind}
use Rattle.ioa_tokens.specs.declared.token.Kind.TheVariants as kind
use Rattle.ioa_tokens.specs.declared.token.Token.{Token}

-- a name by its bytes, a number by its value, a reserved word or sign by itself
pub data Tok : Type 0 where
  Name : List ℕ → Tok
  Num : ℕ → Tok
  Key : Word → Tok

abbrev pub tok_of : Kind → Tok
tok_of (kind.Name s) = Name s.now
tok_of (kind.Number n) = Num n
tok_of (kind.Word w) = Key w

abbrev pub toks_of : List Token → List Tok
toks_of ts = map (λ t. tok_of t.kind) ts

-- `==` on words
abbrev pub same_word : Word → Word → Bool
same_word = sameb the_type

-- the token is this word
abbrev pub is : Word → Tok → Bool
is w (Key v) = same_word v w
is w (Name s) = false
is w (Num n) = false

-- the first token is this word
abbrev pub sees : Word → List Tok → Bool
sees w [] = false
sees w (k ∷ ks) = is w k

-- a token, and the place of its first byte
pub record Placed : Type 0 where
  pub tok : Tok
  pub at : ℕ

abbrev pub placed_of : Token → Placed
placed_of t = record { tok = tok_of t.kind; at = t.at }

abbrev pub placed : List Token → List Placed
placed ts = map placed_of ts
