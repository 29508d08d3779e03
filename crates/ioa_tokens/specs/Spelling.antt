-- How tokens are spelled, and where they end.
use Rattle.std.specs.Prelude.{◌≡◌, ◌≤◌, ◌<◌, ℕ, Bool, true, false, ◌&&◌, ◌==◌, length, slice_index, codes, if◌then◌else◌}
use Rattle.std.specs.List.{list_all}
use Rattle.ioa_tokens.specs.declared.word.Word.{Word}
use Rattle.ioa_tokens.specs.declared.word.Word.TheVariants as w
use Rattle.ioa_tokens.specs.Bytes.{Text, is_letter, is_digit, is_word_byte, value_of}
use Rattle.ioa_tokens.specs.Tokens.{Tok, Name, Num, Key}

abbrev pub spelling : Word → Text
spelling w.Type = codes "type"
spelling w.Enumeration = codes "enumeration"
spelling w.Of = codes "of"
spelling w.Automaton = codes "automaton"
spelling w.Signature = codes "signature"
spelling w.Input = codes "input"
spelling w.Output = codes "output"
spelling w.Internal = codes "internal"
spelling w.Const = codes "const"
spelling w.States = codes "states"
spelling w.Transitions = codes "transitions"
spelling w.Pre = codes "pre"
spelling w.Eff = codes "eff"
spelling w.Tasks = codes "tasks"
spelling w.Components = codes "components"
spelling w.If = codes "if"
spelling w.Then = codes "then"
spelling w.Elseif = codes "elseif"
spelling w.Else = codes "else"
spelling w.Fi = codes "fi"
spelling w.For = codes "for"
spelling w.Do = codes "do"
spelling w.Od = codes "od"
spelling w.Empty = codes "empty"
spelling w.Fill = codes "fill"
spelling w.Head = codes "head"
spelling w.Tail = codes "tail"
spelling w.Len = codes "len"
spelling w.Append = codes "append"
spelling w.True = codes "true"
spelling w.False = codes "false"
spelling w.And = codes "and"
spelling w.Or = codes "or"
spelling w.Not = codes "not"
spelling w.Mod = codes "mod"
spelling w.Bool = codes "Bool"
spelling w.Int = codes "Int"
spelling w.Seq = codes "Seq"
spelling w.Array = codes "Array"
spelling w.Idle = codes "idle"
spelling w.Hidden = codes "hidden"
spelling w.Assign = codes ":="
spelling w.DotDot = codes ".."
spelling w.Colon = codes ":"
spelling w.Comma = codes ","
spelling w.Semicolon = codes ";"
spelling w.Open = codes "("
spelling w.Close = codes ")"
spelling w.OpenBracket = codes "["
spelling w.CloseBracket = codes "]"
spelling w.OpenBrace = codes "{"
spelling w.CloseBrace = codes "}"
spelling w.Equal = codes "="
spelling w.NotEqual = codes "/="
spelling w.Less = codes "<"
spelling w.AtMost = codes "<="
spelling w.Greater = codes ">"
spelling w.AtLeast = codes ">="
spelling w.Plus = codes "+"
spelling w.Minus = codes "-"
spelling w.Times = codes "*"

-- a reserved word, and no sign
abbrev pub is_reserved : Word → Bool
is_reserved w = is_letter (slice_index (spelling w) 0)

-- a letter, then letters, digits and `_`, but no reserved word
pub record IsName (text : Text) : Type 0 where
  pub begins : is_letter (slice_index text 0) ≡ true
  pub goes_on : list_all is_word_byte text ≡ true
  pub is_free : (w : Word) → spelling w ≡ text → ⊥

-- digits whose value is a number of 63 bits; zeros may lead
pub record IsNumber (n : ℕ) (text : Text) : Type 0 where
  pub some : 0 < length text
  pub digits : list_all is_digit text ≡ true
  pub value : value_of text ≡ n
  pub fits : n ≤ 9223372036854775807

-- the bytes spell the token
abbrev pub IsToken : Tok → Text → Type 0
IsToken (Name s) text = (s ≡ text) × IsName text
IsToken (Num n) text = IsNumber n text
IsToken (Key w) text = spelling w ≡ text

-- with `=` after it, the sign would be another sign
abbrev pub takes_equal : Word → Bool
takes_equal w.Colon = true
takes_equal w.Less = true
takes_equal w.Greater = true
takes_equal w = false

-- The byte would belong to the token if it came next: names, reserved words and numbers are as long as letters, digits
-- and `_` go on, and the longest sign is taken.
abbrev pub goes_on : Tok → ℕ → Bool
goes_on (Name s) b = is_word_byte b
goes_on (Num n) b = is_word_byte b
goes_on (Key w) b = if is_reserved w then is_word_byte b else takes_equal w && b == 61
