-- What stands between two neighbours in a layout.
use Rattle.std.specs.Prelude.{◌≡◌, ◌≤◌, ◌-◌, ◌*◌, ◌⊎◌, ◌==◌, ◌&&◌, not, ℕ, zero, suc, Bool, true, false, List, [], ◌∷◌, ◌++◌, length, if◌then◌else◌}
use Rattle.ioa_tokens.specs.Bytes.{Text, is_word_byte}
use Rattle.ioa_tokens.specs.declared.word.Word.{Word}
use Rattle.ioa_tokens.specs.declared.word.Word.TheVariants as w
use Rattle.ioa_tokens.specs.Tokens.{Tok, Name, Num, Key}
use Rattle.ioa_tokens.specs.Cutting.{Piece, Blank, Comment, Mark, Part, ends}
use Rattle.ioa_tokens.specs.Layout.{begins_line}
use Rattle.ioa_layout.specs.declared.gap.Gap.{Gap}
use Rattle.ioa_layout.specs.declared.gap.Gap.TheVariants as gap
use Rattle.ioa_layout.specs.declared.gap.Line.{Line}

abbrev pub blanks : ℕ → Text
blanks zero = []
blanks (suc n) = 32 ∷ blanks n

-- a line feed, one more for a blank line, and the indent
abbrev pub line_text : Line → Text
line_text line = 10 ∷ (if line.apart then 10 ∷ blanks line.indent else blanks line.indent)

abbrev pub gap_text : Gap → Text
gap_text gap.Nothing = []
gap_text gap.Space = 32 ∷ []
gap_text gap.Margin = 32 ∷ 32 ∷ []
gap_text (gap.Line line) = line_text line

abbrev pub is_line : Gap → Bool
is_line (gap.Line line) = true
is_line g = false

abbrev pub indent_of : Gap → ℕ
indent_of (gap.Line line) = line.indent
indent_of g = 0

-- how many of 100 columns are left behind a gap, where so many were left before it
abbrev pub room_after : Gap → ℕ → ℕ
room_after gap.Nothing room = room
room_after gap.Space room = room - 1
room_after gap.Margin room = room - 2
room_after (gap.Line line) room = 100 - line.indent

-- a line begins with it: a section, a declaration or a clause
abbrev pub token_begins : Tok → Bool
token_begins (Key word) = begins_line word
token_begins (Name s) = false
token_begins (Num n) = false

-- how deep a section, a declaration or a clause stands
abbrev pub level : Word → ℕ
level w.Type = 0
level w.Automaton = 0
level w.Input = 2
level w.Output = 2
level w.Internal = 2
level w.Pre = 3
level w.Eff = 3
level w = 1

abbrev pub token_level : Tok → ℕ
token_level (Key word) = level word
token_level (Name s) = 0
token_level (Num n) = 0

abbrev pub level_of : Piece → ℕ
level_of (Mark t) = token_level t
level_of Comment = 0
level_of Blank = 0

abbrev pub begins : Piece → Bool
begins (Mark t) = token_begins t
begins Comment = false
begins Blank = false

-- no token goes on with the byte
abbrev pub is_free : ℕ → Bool
is_free b = not (is_word_byte b) && not (b == 61)

-- no byte goes on with the sign
abbrev pub ends_itself : Word → Bool
ends_itself w.Open = true
ends_itself w.OpenBracket = true
ends_itself w.DotDot = true
ends_itself w.Minus = true
ends_itself w = false

abbrev pub is_comment : Piece → Bool
is_comment Comment = true
is_comment (Mark t) = false
is_comment Blank = false

-- The gap may stand between the two, where so many columns are left before it: the first ends there; a section, a
-- declaration and a clause begin a line, with two blanks for each level; and what isn't the first of its line, nor a
-- comment, ends within 100 columns.
pub record IsGap (room : ℕ) (p : Part) (g : Gap) (q : Part) : Type 0 where
  pub apart : ends p.piece (gap_text g ++ q.text) ≡ true
  pub begun : begins q.piece ≡ true → (is_line g ≡ true) × (indent_of g ≡ 2 * level_of q.piece)
  pub within : is_comment q.piece ≡ true ⊎ (is_line g ≡ true ⊎ length q.text ≤ room_after g room)
  pub low : indent_of g ≤ 60

-- the gaps behind a part, one before each of the others
abbrev pub AreGaps : ℕ → Part → List Part → List Gap → Type 0
AreGaps room p [] gs = gs ≡ []
AreGaps room p (q ∷ qs) [] = ⊥
AreGaps room p (q ∷ qs) (g ∷ gs) = IsGap room p g q × AreGaps (room_after g room - length q.text) q qs gs

-- what stands behind the first part: a gap before each of the others, as far as there are gaps; and a line feed
abbrev pub following : List Part → List Gap → Text
following [] gs = 10 ∷ []
following (q ∷ qs) [] = 10 ∷ []
following (q ∷ qs) (g ∷ gs) = gap_text g ++ (q.text ++ following qs gs)

-- the text of parts with their gaps
abbrev pub laid : List Part → List Gap → Text
laid [] gs = 10 ∷ []
laid (p ∷ ps) gs = p.text ++ following ps gs

abbrev pub AreAllGaps : List Part → List Gap → Type 0
AreAllGaps [] gs = gs ≡ []
AreAllGaps (p ∷ ps) gs = AreGaps (100 - length p.text) p ps gs
