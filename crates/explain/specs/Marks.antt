-- What is marked of a refused text.
use Rattle.std.specs.Prelude.{◌≡◌, ◌≢◌, ◌⊎◌, ◌==◌, ◌&&◌, ◌||◌, ℕ, Bool, Option, None, Some, List, drop, if◌then◌else◌, length, max, min, option_map, slice_get, slice_index, IfSome}
use Rattle.std.specs.List.{prefix_len}
use Rattle.ioa_tokens.specs.Bytes.{Text, is_word_byte}
use Rattle.ioa_tokens.specs.Cutting.{IsFault, IsTokens}
use Rattle.ioa_tokens.specs.Tokens.{Placed}
use Rattle.ioa_tokens.specs.declared.TokensError.{TokensError}
use Rattle.ioa_tokens.specs.declared.TokensError.TheVariants as tokens
use Rattle.ioa_front.specs.Refusals.{read_place}
use Rattle.ioa_check.specs.Refusals.{check_place}
use Rattle.compose.specs.declared.SourceError.{SourceError}
use Rattle.compose.specs.declared.SourceError.TheVariants as fault
use Rattle.excerpts.specs.declared.Mark.{Mark}
use Rattle.excerpts.specs.Places.{before_in_line, line_at, line_of}

-- the two bytes are one sign: `:=` `/=` `<=` `>=` `..`
abbrev pub is_pair : ℕ → ℕ → Bool
is_pair a b = (b == 61 && (a == 58 || a == 47 || a == 60 || a == 62)) || (a == 46 && b == 46)

-- how many carets stand below what begins so: below all of a word or number, and both bytes of a sign
abbrev pub width_of : Text → ℕ
width_of text =
    if length text == 0 then 1
    else (if is_word_byte (slice_index text 0) then prefix_len is_word_byte text
    else (if is_pair (slice_index text 0) (slice_index text 1) then 2 else 1))

-- what begins at a place is marked
abbrev pub mark_at : Text → ℕ → Mark
mark_at text at = record { at = at; width = width_of (drop (min at (length text)) text) }

-- the place of token k, counted from 0
abbrev pub token_place : List Placed → Option ℕ → Option ℕ
token_place tokens None = None
token_place tokens (Some k) = option_map (λ t. t.at) (slice_get tokens k)

-- the text has these tokens, and token k of them is marked
pub record MarksToken (text : Text) (k : Option ℕ) (mark : Option Mark) : Type 0 where
  pub tokens : List Placed
  pub cut : IsTokens text tokens
  pub is : mark ≡ option_map (mark_at text) (token_place tokens k)

-- the text has no tokens, and nothing is marked
pub record MarksNone (text : Text) (mark : Option Mark) : Type 0 where
  pub error : TokensError
  pub refused : IsFault text error
  pub judged : error ≢ tokens.NoMemory
  pub is : mark ≡ None

abbrev pub IsTokenMark : Text → Option ℕ → Option Mark → Type 0
IsTokenMark text k mark = MarksToken text k mark ⊎ MarksNone text mark

-- What is marked of a refused source: what begins at the refusal's byte; its token; and some token
-- where components can't be composed.
abbrev pub IsMark : Text → SourceError → Option Mark → Type 0
IsMark source (fault.Read refusal) mark = mark ≡ option_map (mark_at source) (read_place refusal)
IsMark source (fault.Check refusal) mark = IsTokenMark source (check_place refusal) mark
IsMark source (fault.Compose refusal) mark = (k : Option ℕ) × IsTokenMark source k mark

-- all of a line is marked, from its first byte on
pub record MarksLine (text : Text) (line : Option ℕ) (mark : Mark) : Type 0 where
  pub here : ℕ
  pub place : here ≡ min mark.at (length text)
  pub line_is : line ≡ Some (line_at text here)
  pub first : before_in_line text here ≡ 0
  pub width_is : mark.width ≡ max 1 (length (line_of text here))

-- what is marked of a file of lines, if anything
abbrev pub IsLineMark : Text → Option ℕ → Option Mark → Type 0
IsLineMark text line mark = IfSome mark (MarksLine text line)
