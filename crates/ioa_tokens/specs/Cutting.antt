-- How a source is cut into blanks, comments and tokens.
use Rattle.std.specs.Prelude.{◌≡◌, ◌≢◌, ℕ, ◌+◌, Bool, true, false, List, [], ◌∷◌, ◌++◌, length}
use Rattle.std.specs.List.{list_all}
use Rattle.std.specs.Str.{IsAscii}
use Rattle.ioa_tokens.specs.Bytes.{Text, is_blank, is_in_line, stops, IsFirstWide}
use Rattle.ioa_tokens.specs.Tokens.{Tok, Placed}
use Rattle.ioa_tokens.specs.Spelling as spelled
use Rattle.ioa_tokens.specs.declared.fault.TokensError.{TokensError}
use Rattle.ioa_tokens.specs.declared.fault.TokensError.TheVariants as fault

-- what a source is made of
pub data Piece : Type 0 where
  Blank : Piece
  Comment : Piece
  Mark : Tok → Piece

-- the bytes are such a piece: one blank byte, a comment from its `%` on, or a token
abbrev pub IsPiece : Piece → Text → Type 0
IsPiece Blank text = (b : ℕ) × (text ≡ b ∷ []) × (is_blank b ≡ true)
IsPiece Comment text = (line : Text) × (text ≡ 37 ∷ line) × (list_all is_in_line line ≡ true)
IsPiece (Mark t) text = spelled.IsToken t text

-- the byte would belong to the piece if it came next; a comment goes on up to the line feed
abbrev pub goes_on : Piece → ℕ → Bool
goes_on Blank b = false
goes_on Comment b = is_in_line b
goes_on (Mark t) b = spelled.goes_on t b

-- the piece ends where these bytes follow
abbrev pub ends : Piece → Text → Bool
ends p = stops (goes_on p)

-- a piece and its bytes
pub record Part : Type 0 where
  pub piece : Piece
  pub text : Text

abbrev pub text_of : List Part → Text
text_of [] = []
text_of (p ∷ ps) = p.text ++ text_of ps

-- each part is what it says, and as long as it goes on; after the last one stands the rest
abbrev pub IsCut : List Part → Text → Type 0
IsCut [] rest = Unit {0}
IsCut (p ∷ ps) rest = IsPiece p.piece p.text × (ends p.piece (text_of ps ++ rest) ≡ true) × IsCut ps rest

-- a token is kept with its place, blanks and comments aren't
abbrev pub keep : Piece → ℕ → List Placed → List Placed
keep Blank at ts = ts
keep Comment at ts = ts
keep (Mark t) at ts = record { tok = t; at = at } ∷ ts

-- the tokens of parts that begin at a place
abbrev pub placed_from : ℕ → List Part → List Placed
placed_from at [] = []
placed_from at (p ∷ ps) = keep p.piece at (placed_from (at + length p.text) ps)

-- the source is cut into parts, and these are its tokens, each with the place of its first byte
pub record IsTokens (source : Text) (tokens : List Placed) : Type 0 where
  pub parts : List Part
  pub whole : text_of parts ≡ source
  pub cut : IsCut parts []
  pub kept : placed_from 0 parts ≡ tokens

-- no piece begins the bytes
abbrev pub IsBad : Text → Type 0
IsBad rest = (rest ≢ []) × ((p : Piece) (text after : Text) → text ++ after ≡ rest → IsPiece p text → ends p after ≡ true → ⊥)

-- the source is cut into parts up to the place, and there no piece begins
pub record IsBadAt (source : Text) (at : ℕ) : Type 0 where
  pub parts : List Part
  pub rest : Text
  pub whole : text_of parts ++ rest ≡ source
  pub cut : IsCut parts rest
  pub place : length (text_of parts) ≡ at
  pub bad : IsBad rest

-- why the source has no tokens: a byte that isn't ASCII goes before a bad token
abbrev pub IsFault : Text → TokensError → Type 0
IsFault source fault.NoMemory = Unit {0}
IsFault source (fault.NotAscii at) = IsFirstWide source at
IsFault source (fault.BadToken at) = IsAscii source × IsBadAt source at
