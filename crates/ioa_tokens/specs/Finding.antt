-- The piece that begins some bytes, found from their front.
use Rattle.std.specs.Prelude.{ℕ, ◌&&◌, ◌==◌, nat_le, nat_lt, if◌then◌else◌, List, [], ◌∷◌, take, map, length, slice_index, Option, Some, None}
use Rattle.std.specs.List.{prefix_len}
use Rattle.std.specs.Str.{bytes_eq}
use Rattle.ioa_tokens.specs.declared.word.Word.{Word}
use Rattle.ioa_tokens.specs.declared.word.Word.TheVariants as w
use Rattle.ioa_tokens.specs.declared.reserved.TheConstants.{TWO, THREE, FOUR, FIVE, SIX, EIGHT, NINE, TEN, ELEVEN}
use Rattle.ioa_tokens.specs.Bytes.{Text, is_letter, is_digit, is_word_byte, is_blank, is_in_line, value_of}
use Rattle.ioa_tokens.specs.Tokens.{Tok, Name, Num, Key}
use Rattle.ioa_tokens.specs.Cutting.{Piece, Blank, Comment, Mark}

abbrev pub lookup : List (Text × Word) → Text → Option Word
lookup [] text = None
lookup (k ∷ ks) text = if bytes_eq k.0 text then Some k.1 else lookup ks text

-- the reserved words of each length, by their texts
abbrev pub two : List (Text × Word)
two = map (λ k. (k.0.now, k.1)) TWO

abbrev pub three : List (Text × Word)
three = map (λ k. (k.0.now, k.1)) THREE

abbrev pub four : List (Text × Word)
four = map (λ k. (k.0.now, k.1)) FOUR

abbrev pub five : List (Text × Word)
five = map (λ k. (k.0.now, k.1)) FIVE

abbrev pub six : List (Text × Word)
six = map (λ k. (k.0.now, k.1)) SIX

abbrev pub eight : List (Text × Word)
eight = map (λ k. (k.0.now, k.1)) EIGHT

abbrev pub nine : List (Text × Word)
nine = map (λ k. (k.0.now, k.1)) NINE

abbrev pub ten : List (Text × Word)
ten = map (λ k. (k.0.now, k.1)) TEN

abbrev pub eleven : List (Text × Word)
eleven = map (λ k. (k.0.now, k.1)) ELEVEN

abbrev pub words_of : ℕ → List (Text × Word)
words_of len =
    if len == 2 then two
    else (if len == 3 then three
    else (if len == 4 then four
    else (if len == 5 then five
    else (if len == 6 then six
    else (if len == 8 then eight
    else (if len == 9 then nine
    else (if len == 10 then ten
    else (if len == 11 then eleven
    else []))))))))

unfoldable pub reserved : Text → Option Word
reserved text = lookup (words_of (length text)) text

abbrev pub word_or_name : Option Word → Text → Tok
word_or_name (Some w) text = Key w
word_or_name None text = Name text

-- a piece and its length
abbrev pub Front : Type 0
Front = Option (Piece × ℕ)

abbrev pub found : Piece → ℕ → Front
found p n = Some (p, n)

abbrev pub word : Text → Front
word bytes = let len = prefix_len is_word_byte bytes in Some (Mark (word_or_name (reserved (take len bytes)) (take len bytes)), len)

unfoldable pub number : Text → Front
number bytes =
    let len = prefix_len is_digit bytes in
    if nat_lt len (prefix_len is_word_byte bytes) then None
    else (if nat_le (value_of (take len bytes)) 9223372036854775807 then Some (Mark (Num (value_of (take len bytes))), len) else None)

-- the sign of two bytes
abbrev pub pair : ℕ → ℕ → Option Word
pair a b =
    if a == 58 && b == 61 then Some w.Assign
    else (if a == 47 && b == 61 then Some w.NotEqual
    else (if a == 60 && b == 61 then Some w.AtMost
    else (if a == 62 && b == 61 then Some w.AtLeast
    else (if a == 46 && b == 46 then Some w.DotDot else None))))

-- the sign of one byte
abbrev pub single : ℕ → Option Word
single a =
    if a == 58 then Some w.Colon
    else (if a == 44 then Some w.Comma
    else (if a == 59 then Some w.Semicolon
    else (if a == 40 then Some w.Open
    else (if a == 41 then Some w.Close
    else (if a == 91 then Some w.OpenBracket
    else (if a == 93 then Some w.CloseBracket
    else (if a == 123 then Some w.OpenBrace
    else (if a == 125 then Some w.CloseBrace
    else (if a == 61 then Some w.Equal
    else (if a == 60 then Some w.Less
    else (if a == 62 then Some w.Greater
    else (if a == 43 then Some w.Plus
    else (if a == 45 then Some w.Minus
    else (if a == 42 then Some w.Times else None))))))))))))))

abbrev pub of_single : Option Word → Front
of_single (Some w) = Some (Mark (Key w), 1)
of_single None = None

abbrev pub of_pair : Option Word → Front → Front
of_pair (Some w) other = Some (Mark (Key w), 2)
of_pair None other = other

-- the longest sign
abbrev pub sign : ℕ → ℕ → Front
sign a b = of_pair (pair a b) (of_single (single a))

unfoldable pub front : Text → Front
front bytes =
    if is_letter (slice_index bytes 0) then word bytes
    else (if is_digit (slice_index bytes 0) then number bytes
    else (if is_blank (slice_index bytes 0) then Some (Blank, 1)
    else (if slice_index bytes 0 == 37 then Some (Comment, prefix_len is_in_line bytes)
    else sign (slice_index bytes 0) (slice_index bytes 1))))
